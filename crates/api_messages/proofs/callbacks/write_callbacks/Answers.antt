use Rattle.std.proofs.Common.{◌≡◌, map, subst}
use Rattle.serde_json.specs.View.{view}
use Rattle.api_messages.specs.Seen.{item_cells}
use Rattle.api_messages.specs.Writing.{FitAll, array_of}
use Rattle.api_messages.proofs.Sent.{array_text, array_again}
use Rattle.api_messages.proofs.callbacks.write_callbacks.Goals as goal

pub returns-clause-text : goal.returns-clause-text
returns-clause-text c =
    let e : view c.in-Ok.value ≡ array_of (map item_cells c.args.items.now) = subst (λ ms. view c.in-Ok.value ≡ array_of (map item_cells ms)) c.as_slice.ensures c.in-Ok.ensures.value in
    array_text _ _ c.args.items.now e c.text_of.ensures.text

pub returns-clause-reads : goal.returns-clause-reads
returns-clause-reads c =
    let e : view c.in-Ok.value ≡ array_of (map item_cells c.args.items.now) = subst (λ ms. view c.in-Ok.value ≡ array_of (map item_cells ms)) c.as_slice.ensures c.in-Ok.ensures.value in
    let fits : FitAll (map item_cells c.args.items.now) = subst (λ ms. FitAll (map item_cells ms)) c.as_slice.ensures c.in-Ok.ensures.fits in
    array_again _ _ c.args.items.now e fits c.text_of.ensures.utf8 c.text_of.ensures.reads
