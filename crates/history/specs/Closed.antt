-- For closed statements: `unfolding readings` opens what is read off a list of events, so that it computes.
use Rattle.history.specs.Readings.{latest, current, fault_in, forcing_in, hand_in, hand_value, tool_in, tool_value, setpoint_in, setpoint_value, parameter_in, parameters, ticks, setpoint_age, bus_in, ended, run_in, rank_at, target_from, position_in, travel_in, status_in, ruling_source_in, judgement, history_from}

unfoldable pub readings : Unit {0}
unfolding latest current fault_in forcing_in hand_in hand_value tool_in tool_value setpoint_in setpoint_value parameter_in parameters ticks setpoint_age bus_in ended run_in rank_at target_from position_in travel_in status_in ruling_source_in judgement history_from
readings = tt
