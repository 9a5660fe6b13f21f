use mathlib.Core.Path.{ap, sym, ◌∙◌}
use Rattle.std.proofs.lemmas.Result.{err_from_is_err_and}
use Rattle.question4.specs.Question4.{question4}
use Rattle.question4.proofs.Question4Passed.{ask_handed, ask_passed}
use Rattle.feed.proofs.PortDemand3.{port_demand3}
use Rattle.csv_feed.proofs.RecordAnswers.{record-fed, feed-refused, record-refused, not-sound, records_feed}
use Rattle.csv_feed.proofs.update_record.Goals as goal

-- ---- a bar is read

pub returns-in_err-events-in-Ok-clause-fed : goal.returns-in_err-events-in-Ok-clause-fed
returns-in_err-events-in-Ok-clause-fed c =
    let p = err_from_is_err_and c.from_residual.result c.from_residual.ensures.1 in
    rw p.1 (feed-refused _ _ _ _ _ c.in-Ok.bar c.in-Ok.length c.in-Ok.ensures.0 _ p.0 p.2 c.in_err-events-in-Ok.ensures.feed)

pub returns-in_err-events-in-Ok-clause-feeds : goal.returns-in_err-events-in-Ok-clause-feeds
returns-in_err-events-in-Ok-clause-feeds c = records_feed

pub returns-in_ok-events-in-Ok-clause-fed : goal.returns-in_ok-events-in-Ok-clause-fed
returns-in_ok-events-in-Ok-clause-fed c = record-fed _ _ _ _ _ c.in-Ok.bar c.in-Ok.length c.in-Ok.ensures.0 c.in_ok-events-in-Ok.events c.in_ok-events-in-Ok.ensures.feed

pub returns-in_ok-events-in-Ok-clause-feeds : goal.returns-in_ok-events-in-Ok-clause-feeds
returns-in_ok-events-in-Ok-clause-feeds c = records_feed

-- ---- no bar is read

pub returns-in_err-ask-in-Err-clause-fed : goal.returns-in_err-ask-in-Err-clause-fed
returns-in_err-ask-in-Err-clause-fed c =
    let h = ask_handed _ _ c.from_residual-in_err-ask-in-Err.result c.from_residual-in_err-ask-in-Err.ensures.1 c.in_err-ask-in-Err.ensures in
    rw h.1 (not-sound _ _ _ c.in-Err.unread c.in-Err.ensures.0 (sym (ap (question4 c.args.czsc.now.stand) c.of-stores.ensures) ∙ h.0))

pub returns-in_err-ask-in-Err-clause-feeds : goal.returns-in_err-ask-in-Err-clause-feeds
returns-in_err-ask-in-Err-clause-feeds c = records_feed

pub returns-in_err-ask-in-Err-clause-demand3 : goal.returns-in_err-ask-in-Err-clause-demand3
returns-in_err-ask-in-Err-clause-demand3 c = port_demand3

pub returns-in_ok-ask-in-Err-clause-fed : goal.returns-in_ok-ask-in-Err-clause-fed
returns-in_ok-ask-in-Err-clause-fed c =
    record-refused _ _ _ c.in-Err.unread c.in-Err.ensures.0 (sym (ap (question4 c.args.czsc.now.stand) c.of-stores.ensures) ∙ ask_passed _ _ c.in_ok-ask-in-Err.ensures)

pub returns-in_ok-ask-in-Err-clause-feeds : goal.returns-in_ok-ask-in-Err-clause-feeds
returns-in_ok-ask-in-Err-clause-feeds c = records_feed

pub returns-in_ok-ask-in-Err-clause-demand3 : goal.returns-in_ok-ask-in-Err-clause-demand3
returns-in_ok-ask-in-Err-clause-demand3 c = port_demand3
