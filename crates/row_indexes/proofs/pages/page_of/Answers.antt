use Rattle.std.proofs.Common.{◌∙◌, ap, take, eqb}
use Rattle.std.specs.List.{dedup}
use Rattle.std.proofs.lemmas.List.Filters.{dedup_is}
use Rattle.std.proofs.lemmas.Map.Keys.{IsStrictlyIncreasing-dedup}
use Rattle.row_indexes.proofs.PageLemmas.{ids-sorted}
use Rattle.row_indexes.proofs.pages.page_of.Goals as goal

pub returns-clause-page : goal.returns-clause-page
returns-clause-page g c =
    let is = dedup_is _ _ _ c.dedup.ensures.filtered in
    record {
      ids = dedup eqb c.sort_unstable.new.self.items;
      rising = IsStrictlyIncreasing-dedup _ c.sort_unstable.ensures.sorted;
      due = λ id. rw (← c.get.ensures.value, ← c.in_ok-jobs.ensures.ids) (ids-sorted c.in_ok-jobs.jobs.items c.sort_unstable.new.self.items c.sort_unstable.ensures.permutation id);
      first = c.of.ensures ∙ c.truncate.ensures.items ∙ ap (take c.args.limit) is;
    }
