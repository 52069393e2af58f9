-- the kinds that share an arm
use Rattle.std.proofs.Common.{rules, inl, inr}
use Rattle.event.specs.Event.{data_refusal, form_of}
use Rattle.event.proofs.data_refusal.Goals as goal

pub returns-in-Tick : goal.returns-in-Tick
unfolding data_refusal form_of
returns-in-Tick c = elim c.in-Tick.is [ inl h ↦ search rules | inr k ↦ elim k [ inl h ↦ search rules | inr h ↦ search rules ] ]

pub returns-in_err-refuse-in-Calibration : goal.returns-in_err-refuse-in-Calibration
unfolding data_refusal form_of
returns-in_err-refuse-in-Calibration c = elim c.in-Calibration.is [ inl h ↦ search rules | inr h ↦ search rules ]

pub returns-in_ok-refuse-in-Calibration : goal.returns-in_ok-refuse-in-Calibration
unfolding data_refusal form_of
returns-in_ok-refuse-in-Calibration c = elim c.in-Calibration.is [ inl h ↦ search rules | inr h ↦ search rules ]
