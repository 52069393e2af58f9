-- Outcomes and decoded events as structs of numbers, since an exported struct holds no enum.
use Rattle.event.specs.Event.{Decoded, Accepted, Refused}
use Rattle.damper.specs.declared.Outcome.{Outcome}
use Rattle.answer.specs.Answer.{word_of, code_of}
use Rattle.host.specs.declared.Stepped.{Stepped}
use Rattle.host.specs.declared.Found.{Found}

-- the drive after an event, and its answer as two numbers
abbrev pub stepped : Outcome → Stepped
stepped o = record { drive = o.drive; word = word_of o.answer; code = code_of o.answer }

-- the refusal, or 0 and the event
abbrev pub found : Decoded → Found
found (Accepted e) = record { refusal = 0; kind = e.kind; a = e.a; b = e.b; c = e.c }
found (Refused n) = record { refusal = n; kind = 0; a = 0; b = 0; c = 0 }
