use Rattle.std.proofs.Common.{◌<◌, length, pos, vec_items, w64, rules}
use Rattle.std.proofs.lemmas.List.{get_or_read}
use Rattle.std.proofs.lemmas.Int.{wrapping_add_is}
use Rattle.walkthrough.proofs.triangle.Triangle.add.Goals as goal

-- the sum is that of the cell read and the amount
pub returns-clause-cells : goal.returns-clause-cells
returns-clause-cells c =
    let index = c.cell_index-index.result in
    let cells = vec_items c.args.self.now.cells in
    let inside : index < length cells = search rules in
    let was = get_or_read cells index c.index.result.now inside (search rules) (pos 0) in
    let summed = wrapping_add_is w64 c.index.result.now c.cents.result (search rules) (search rules) in
    let at = c.cell_index-index.ensures.value in
    let cents = c.cents.ensures in
    cc
