-- The one fact that settles the table.
use mathlib.Core.Bool.{true}
use mathlib.Core.Path.{◌≡◌, refl}
use Rattle.line.specs.Numbers.{outside}
use Rattle.line.specs.Line.{exact_at, value_at, remainder_at, turned, is_zeros, bounded, reaches}
use Rattle.clock.specs.Numbers.{time_outside, rate_outside, step_outside}
use Rattle.clock.specs.Clock.{old_line, time_table}
use Rattle.clock.specs.Creation.{creation_table, creation_refusal, created, creating}
use Rattle.clock.specs.Reading.{clock_value, reading_table, reading}
use Rattle.clock.specs.Update.{wrong_unless, values_beyond, rate_too_wide, point, effect, new_line, alone_table, allowed_table, request_table, new_line_table, update_table, next_generation, updated, updating}
use Rattle.clock.specs.Details.{details_table, details_of, detailing}
use Rattle.clock.specs.Taken.{drawable, may_run, as_created, is_clock, guarded}
use Rattle.clock.specs.Calls.{refusal_of, accepted, after}
use Rattle.fields.specs.Bits.{number, digits, row, bytes_of}
use Rattle.fields.specs.Field.{field}
use Rattle.fields.specs.Record.{packed, fields}
use Rattle.slip.specs.Layout.{widths_by, length_by, padding_by, layout_by}
use Rattle.slip.specs.Reading.{headed, values_by, header_table_by, fields_table, front_table_by, reading_by, reading_single}
use Rattle.slip.specs.Writing.{in_slip, values_of, bytes_for, asked_table, writing_table, writing}
use Rattle.slip.specs.Row.{row_after}
use Rattle.demands.specs.Ideal.{ideal_at, history_of, rate_before, changed, noted}
use Rattle.cases.specs.Case.{all}
use Rattle.cases.specs.Table.{table}

pub cases_settled : all table ≡ true
unfolding is_zeros bounded reaches drawable may_run as_created is_clock guarded outside time_outside rate_outside step_outside exact_at value_at remainder_at turned old_line time_table creation_table creation_refusal created creating clock_value reading_table reading wrong_unless values_beyond rate_too_wide point effect new_line alone_table allowed_table request_table new_line_table update_table next_generation updated updating details_table details_of detailing refusal_of accepted after ideal_at history_of rate_before changed noted number digits row bytes_of field packed fields widths_by length_by padding_by layout_by headed values_by header_table_by fields_table front_table_by reading_by reading_single row_after in_slip values_of bytes_for asked_table writing_table writing
cases_settled = refl
