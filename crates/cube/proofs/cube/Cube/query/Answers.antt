use Rattle.std.proofs.Common.{◌≡◌, take, replicate, pos, Some, ap, ◌∙◌, rules}
use Rattle.register.specs.Registers.{Meaning}
use Rattle.cube.specs.Cubes.{state_of}
use Rattle.cube.specs.Queries.{known_on, queried}
use Rattle.cube.specs.Sheets.{added_all, sheet_length}
use Rattle.cube.specs.Triangles.{triangle}
use Rattle.cube.proofs.Cells.{drawn_cells}
use Rattle.cube.proofs.cube.Cube.query.Goals as goal

pub returns : goal.returns
returns g c =
    let es = (g.R.Register.meaning c.args.self.now.register).entries in
    let m = g.C.Cohort.meaning c.args.self.now.cohort in
    let valued = Some c.args.valued in
    let cleared = c.new-cells.ensures.cells ∙ c.fill.ensures.after (λ _ is. is) ∙ ap (λ n. replicate n (pos 0)) c.in_ok-check_sheet.ensures.fits in
    let known = ap (λ (b : Meaning). b.entries) c.in_ok-entries.ensures ∙ ap (λ n. take n es) c.booked_by-count.ensures in
    let drawn : c.add_triangle.new.cells.cells.now ≡ queried (state_of g.R.Register.meaning g.C.Cohort.meaning c.args.self.now) c.args.known c.args.valued =
    c.add_triangle.ensures.cells
    ∙ ap (λ h. added_all c.new-cells.result.cells.now (triangle (g.C.Cohort.meaning h) valued c.in_ok-entries.entries.entries)) c.new-cells.ensures.cohort
    ∙ ap (λ cells. added_all cells (triangle m valued c.in_ok-entries.entries.entries)) cleared
    ∙ ap (λ xs. added_all (replicate (sheet_length m) (pos 0)) (triangle m valued xs)) known
    ∙ drawn_cells (sheet_length m) (triangle m valued (known_on c.args.known es)) in
    (search rules, search (rules, drawn))
