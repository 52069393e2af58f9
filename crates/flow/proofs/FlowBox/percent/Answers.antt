use Rattle.flow.specs.PercentLaws.{halves}
use Rattle.flow.specs.Laws.{nominal_set}
use Rattle.flow.proofs.FlowBox.percent.Goals as goal

-- neighbours of which `low` qualifies and `high` does not
pub returns : goal.returns
returns c =
    let i = c.loop-low.invariant in
    halves _ (nominal_set _ c.args.self.now.formed) _ _ _ i.0 c.loop-low-test.false i.1 i.2 i.3
