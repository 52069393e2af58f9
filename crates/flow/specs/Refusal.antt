-- Document 02, W-209: the number of each refusal of a flow box.
use Rattle.std.specs.Prelude.{ℕ}
use Rattle.flow.specs.declared.FlowRefusal.{FlowRefusal}
use Rattle.flow.specs.declared.FlowRefusal.TheVariants as By

abbrev pub number : FlowRefusal → ℕ
number By.Record = 22
number By.Reading = 23
