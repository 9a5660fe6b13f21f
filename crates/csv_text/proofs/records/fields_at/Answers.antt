use Rattle.csv_text.specs.Reading.{time_at, next_at}
use Rattle.csv_text.proofs.RecordLaws.{is_read, not_read, is-end, not_end, stop_0, stop_1, stop_2, stop_3, stop_4, stop_5, stop_6, stop_7, record_read, rest_within}
use Rattle.csv_text.proofs.records.fields_at.Goals as goal

pub returns-in_err-time : goal.returns-in_err-time
returns-in_err-time c = rw c.from_residual.ensures (stop_0 c.args.text.now (not_read (time_at c.args.text.now) c.in_err-time.ensures))

pub returns-in_err-open : goal.returns-in_err-open
returns-in_err-open c = rw c.from_residual-in_err-open.ensures (stop_1 c.args.text.now (is_read (time_at c.args.text.now) _ _ c.in_ok-time.ensures) (not_read (next_at c.in_ok-time.rest.now) c.in_err-open.ensures))

pub returns-in_err-close : goal.returns-in_err-close
returns-in_err-close c = rw c.from_residual-in_err-close.ensures (stop_2 c.args.text.now (is_read (time_at c.args.text.now) _ _ c.in_ok-time.ensures) (is_read (next_at c.in_ok-time.rest.now) _ _ c.in_ok-open.ensures) (not_read (next_at c.in_ok-open.rest.now) c.in_err-close.ensures))

pub returns-in_err-high : goal.returns-in_err-high
returns-in_err-high c = rw c.from_residual-in_err-high.ensures (stop_3 c.args.text.now (is_read (time_at c.args.text.now) _ _ c.in_ok-time.ensures) (is_read (next_at c.in_ok-time.rest.now) _ _ c.in_ok-open.ensures) (is_read (next_at c.in_ok-open.rest.now) _ _ c.in_ok-close.ensures) (not_read (next_at c.in_ok-close.rest.now) c.in_err-high.ensures))

pub returns-in_err-low : goal.returns-in_err-low
returns-in_err-low c = rw c.from_residual-in_err-low.ensures (stop_4 c.args.text.now (is_read (time_at c.args.text.now) _ _ c.in_ok-time.ensures) (is_read (next_at c.in_ok-time.rest.now) _ _ c.in_ok-open.ensures) (is_read (next_at c.in_ok-open.rest.now) _ _ c.in_ok-close.ensures) (is_read (next_at c.in_ok-close.rest.now) _ _ c.in_ok-high.ensures) (not_read (next_at c.in_ok-high.rest.now) c.in_err-low.ensures))

pub returns-in_err-vol : goal.returns-in_err-vol
returns-in_err-vol c = rw c.from_residual-in_err-vol.ensures (stop_5 c.args.text.now (is_read (time_at c.args.text.now) _ _ c.in_ok-time.ensures) (is_read (next_at c.in_ok-time.rest.now) _ _ c.in_ok-open.ensures) (is_read (next_at c.in_ok-open.rest.now) _ _ c.in_ok-close.ensures) (is_read (next_at c.in_ok-close.rest.now) _ _ c.in_ok-high.ensures) (is_read (next_at c.in_ok-high.rest.now) _ _ c.in_ok-low.ensures) (not_read (next_at c.in_ok-low.rest.now) c.in_err-vol.ensures))

pub returns-in_err-amount : goal.returns-in_err-amount
returns-in_err-amount c = rw c.from_residual-in_err-amount.ensures (stop_6 c.args.text.now (is_read (time_at c.args.text.now) _ _ c.in_ok-time.ensures) (is_read (next_at c.in_ok-time.rest.now) _ _ c.in_ok-open.ensures) (is_read (next_at c.in_ok-open.rest.now) _ _ c.in_ok-close.ensures) (is_read (next_at c.in_ok-close.rest.now) _ _ c.in_ok-high.ensures) (is_read (next_at c.in_ok-high.rest.now) _ _ c.in_ok-low.ensures) (is_read (next_at c.in_ok-low.rest.now) _ _ c.in_ok-vol.ensures) (not_read (next_at c.in_ok-vol.rest.now) c.in_err-amount.ensures))

pub returns-in_err-rest : goal.returns-in_err-rest
returns-in_err-rest c = rw c.from_residual-in_err-rest.ensures (stop_7 c.args.text.now (is_read (time_at c.args.text.now) _ _ c.in_ok-time.ensures) (is_read (next_at c.in_ok-time.rest.now) _ _ c.in_ok-open.ensures) (is_read (next_at c.in_ok-open.rest.now) _ _ c.in_ok-close.ensures) (is_read (next_at c.in_ok-close.rest.now) _ _ c.in_ok-high.ensures) (is_read (next_at c.in_ok-high.rest.now) _ _ c.in_ok-low.ensures) (is_read (next_at c.in_ok-low.rest.now) _ _ c.in_ok-vol.ensures) (is_read (next_at c.in_ok-vol.rest.now) _ _ c.in_ok-amount.ensures) (not_end c.in_ok-amount.rest.now c.in_err-rest.ensures))

pub overflow_sub-result : goal.overflow_sub-result
overflow_sub-result c = rest_within c.args.text.now (is_read (time_at c.args.text.now) _ _ c.in_ok-time.ensures) (is_read (next_at c.in_ok-time.rest.now) _ _ c.in_ok-open.ensures) (is_read (next_at c.in_ok-open.rest.now) _ _ c.in_ok-close.ensures) (is_read (next_at c.in_ok-close.rest.now) _ _ c.in_ok-high.ensures) (is_read (next_at c.in_ok-high.rest.now) _ _ c.in_ok-low.ensures) (is_read (next_at c.in_ok-low.rest.now) _ _ c.in_ok-vol.ensures) (is_read (next_at c.in_ok-vol.rest.now) _ _ c.in_ok-amount.ensures) (is-end c.in_ok-amount.rest.now c.in_ok-rest.rest c.in_ok-rest.ensures)

pub returns : goal.returns
returns c = record_read c.args.text.now (is_read (time_at c.args.text.now) _ _ c.in_ok-time.ensures) (is_read (next_at c.in_ok-time.rest.now) _ _ c.in_ok-open.ensures) (is_read (next_at c.in_ok-open.rest.now) _ _ c.in_ok-close.ensures) (is_read (next_at c.in_ok-close.rest.now) _ _ c.in_ok-high.ensures) (is_read (next_at c.in_ok-high.rest.now) _ _ c.in_ok-low.ensures) (is_read (next_at c.in_ok-low.rest.now) _ _ c.in_ok-vol.ensures) (is_read (next_at c.in_ok-vol.rest.now) _ _ c.in_ok-amount.ensures) (is-end c.in_ok-amount.rest.now c.in_ok-rest.rest c.in_ok-rest.ensures)
