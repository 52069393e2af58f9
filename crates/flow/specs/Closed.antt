-- For closed statements: `unfolding computation` opens the flow box and its floats, so that they compute.
use Rattle.std.specs.Float.Ieee.{neg, sum, add, sub, mul, lt, eq, le, of_int, of_bits, of_fields, round, units, odd, span, climb, size}
use Rattle.flow.specs.Flow.{is_setting, is_flow, is_share, apart, qualifies, greatest, settings_fit, well_formed, due_by, hear_of}

unfoldable pub computation : Unit {0}
unfolding neg sum add sub mul lt eq le of_int of_bits of_fields round units odd span climb size is_setting is_flow is_share apart qualifies greatest settings_fit well_formed due_by hear_of
computation = tt
