use Rattle.std.proofs.Common.{take, None, sym, ◌∙◌, inl, inr}
use Rattle.cube.proofs.MovementKinds.{kind_next, kind_content}
use Rattle.cube.proofs.reading.kind_among.Goals as goal

pub returns-in_err-entry : goal.returns-in_err-entry
returns-in_err-entry g c = c.from_residual.ensures ∙ sym (kind_next (take c.args.count (g.R.Register.meaning c.args.register.now).entries) c.args.number c.chain.counter c.chain.at c.chain-test.true None (sym c.in_err-entry.was ∙ c.entry_among.ensures)) ∙ c.chain.invariant

pub returns-in-Payment : goal.returns-in-Payment
returns-in-Payment g c = kind_content (take c.args.count (g.R.Register.meaning c.args.register.now).entries) c.args.number c.chain.counter c.chain.at c.chain-test.true c.in_ok-entry.entry _ c.in_ok-entry.ensures c.in-Payment.is c.chain.invariant

pub returns-in-ReserveChange : goal.returns-in-ReserveChange
returns-in-ReserveChange g c = kind_content (take c.args.count (g.R.Register.meaning c.args.register.now).entries) c.args.number c.chain.counter c.chain.at c.chain-test.true c.in_ok-entry.entry _ c.in_ok-entry.ensures c.in-ReserveChange.is c.chain.invariant

pub returns-in-Opening : goal.returns-in-Opening
returns-in-Opening g c =
    elim c.in-Opening.is [
      | inl opening ↦ kind_content (take c.args.count (g.R.Register.meaning c.args.register.now).entries) c.args.number c.chain.counter c.chain.at c.chain-test.true c.in_ok-entry.entry _ c.in_ok-entry.ensures opening.1 c.chain.invariant
      | inr other ↦
          elim other [
            | inl void ↦ kind_content (take c.args.count (g.R.Register.meaning c.args.register.now).entries) c.args.number c.chain.counter c.chain.at c.chain-test.true c.in_ok-entry.entry _ c.in_ok-entry.ensures void.1 c.chain.invariant
            | inr redating ↦ kind_content (take c.args.count (g.R.Register.meaning c.args.register.now).entries) c.args.number c.chain.counter c.chain.at c.chain-test.true c.in_ok-entry.entry _ c.in_ok-entry.ensures redating.1 c.chain.invariant
          ]
    ]

pub chain-preserved : goal.chain-preserved
chain-preserved g c = kind_content (take c.args.count (g.R.Register.meaning c.args.register.now).entries) c.args.number c.chain.counter c.chain.at c.chain-test.true c.in_ok-entry.entry _ c.in_ok-entry.ensures c.in-Correction.is c.chain.invariant
