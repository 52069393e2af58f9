-- For closed statements: `unfolding computation` opens drive and hall, so that a list of calls computes.
use Rattle.numbers.specs.Places.{count_below}
use Rattle.damper.specs.Carry.{answers_in}
use Rattle.damper.specs.Closed as Drive
use Rattle.hall.specs.Hall.{bad_number, named_in, names_twice, call_refusal}
use Rattle.hall.specs.Quota.{due_now, hall_ticked, sends}
use Rattle.hall.specs.Turns.{turns_of, turned, row_after, answers_after, turns_in, hall_after, hall_turned, shared_out, own_of, events_for}

unfoldable pub computation : Unit {0}
unfolding Drive.computation count_below answers_in bad_number named_in names_twice call_refusal due_now hall_ticked sends turns_of turned row_after answers_after turns_in hall_after hall_turned shared_out own_of events_for
computation = tt
