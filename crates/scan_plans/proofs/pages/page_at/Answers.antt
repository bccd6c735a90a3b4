use Rattle.std.proofs.Common.{ap, ◌∙◌}
use Rattle.std.specs.List.{filter_map}
use Rattle.scan_plans.specs.Entries.{entry_at}
use Rattle.scan_plans.proofs.PageLemmas.{page-entries}
use Rattle.scan_plans.proofs.pages.page_at.Goals as goal

pub returns : goal.returns
returns c =
    c.in_ok-page.ensures
    ∙ ap (filter_map (entry_at c.args.records.now.kept.jobs)) c.as_slice.ensures
    ∙ page-entries c.args.limit c.args.at c.args.records.now.kept c.in_ok-ids.ids c.requires (c.law_page.ensures c.args.limit c.args.at c.args.records.now.kept c.in_ok-ids.ids c.requires c.in_ok-ids.ensures)
