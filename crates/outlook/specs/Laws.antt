-- What an outlook says of the tick itself, of a record that is well formed.
use Rattle.std.specs.Prelude.{◌≡◌, refl, Bool, true, false, not, ◌&&◌, ◌||◌}
use Rattle.std.proofs.Common.{◌∙◌}
use Rattle.numbers.specs.Numbers.{pick}
use Rattle.table.specs.Table.{rate}
use Rattle.motion.specs.Motion.{toward}
use Rattle.answer.specs.declared.Answer.TheVariants.{Tick, Report}
use Rattle.damper.specs.declared.Drive.{Drive}
use Rattle.damper.specs.declared.Advanced.{Advanced}
use Rattle.damper.specs.WellFormed.{well_formed}
use Rattle.damper.specs.Tick.{aged, moved, advance, due_with, due, status_of}
use Rattle.damper.specs.Step.{tick_with, ticked}
use Rattle.outlook.specs.Outlook.{outlook_of}

-- what differs counts where there is a last report: where there is none, that alone is enough
where_reported : (r c s : Bool) → ((not r || (r && c)) || (r && s)) ≡ ((not r || c) || s)
where_reported true c s = refl
where_reported false c s = refl

-- step 4 answers with a report where one is due
tick_answer : (b : Bool) (a : Advanced)
    → (tick_with b a).answer
    ≡ pick b (Report a.drive.position a.rank a.motor (status_of a.drive)) (Tick a.drive.position a.rank a.motor)
unfolding tick_with
tick_answer true a = refl
tick_answer false a = refl

module _ (d : Drive) (h : well_formed d ≡ true) where
  -- the tick's report is due by these conditions, and by no other
  outlook_due : let o = outlook_of d in
      due (advance d).drive ≡ (o.waited && (((o.first || o.changed) || o.differs) || o.period))
  unfolding outlook_of due_with
  outlook_due = simp (h, where_reported)

  -- the tick is answered with the outlook's position, rank and status, which it reports by these conditions and by no other
  pub outlook_answer : let o = outlook_of d in
      let m = (advance d).motor in
      (ticked d).answer
      ≡ pick (o.waited && (((o.first || o.changed) || o.differs) || o.period))
      (Report o.position o.rank m o.status)
      (Tick o.position o.rank m)
  unfolding outlook_of ticked advance
  outlook_answer = tick_answer (due (advance d).drive) (advance d) ∙ rw outlook_due (rw h)

  -- it moves from the position as it is toward the target, by Rate at most
  pub outlook_move : let o = outlook_of d in o.position ≡ toward d.position o.target (rate d.params)
  unfolding outlook_of advance moved aged
  outlook_move = rw h
