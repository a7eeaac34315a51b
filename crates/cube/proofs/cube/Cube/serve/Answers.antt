use Rattle.std.proofs.Common.{rules}
use Rattle.cube.proofs.cube.Cube.serve.Goals as goal
use Rattle.cube.proofs.cube.Cube.serve.Goals.{in-Open, in-Movement, in-Void, in-Redate, in-Draft+in_ok-answer-in-Draft, in-Post, in-Drop, in-Query+in_ok-answer-in-Query}

pub returns : goal.returns
returns g c =
    elim c.match-request.branch [
      | in-Open w ↦ search rules
      | in-Movement w ↦ search rules
      | in-Void w ↦ search rules
      | in-Redate w ↦ search rules
      | in-Draft+in_ok-answer-in-Draft w ↦ search (rules, w.serve_draft.ensures c.args.sheet.now)
      | in-Post w ↦ search rules
      | in-Drop w ↦ search rules
      | in-Query+in_ok-answer-in-Query w ↦ search rules
    ]
