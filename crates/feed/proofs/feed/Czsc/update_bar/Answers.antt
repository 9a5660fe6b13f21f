use mathlib.Core.Path.{ap, sym, ◌∙◌}
use Rattle.question4.specs.Question4.{question4}
use Rattle.question4.proofs.Question4Passed.{is-sound, ask_passed, ask_handed}
use Rattle.check_bi.proofs.ScanWindows.{clear_none}
use Rattle.feed.proofs.FeedLaws.{feed_unsound}
use Rattle.feed.proofs.PortDemand3.{port_demand3}
use Rattle.feed.proofs.feed.Czsc.update_bar.Goals as goal

-- ---- a sound stand is fed

pub feed_sound-requires : goal.feed_sound-requires
feed_sound-requires c =
    record { sound = is-sound c.args.self.now.stand _ (sym (ap (question4 c.args.self.now.stand) c.of-stores.ensures) ∙ ask_passed _ _ c.in_ok-ask.ensures); clear = clear_none _ }

pub returns-clause-demand3 : goal.returns-clause-demand3
returns-clause-demand3 c = port_demand3

-- ---- any other is refused

pub returns-in_err-ask-clause-feed : goal.returns-in_err-ask-clause-feed
returns-in_err-ask-clause-feed c =
    let p = ask_handed _ _ c.from_residual.result c.from_residual.ensures.1 c.in_err-ask.ensures in
    rw p.1 (feed_unsound c.args.self.now.stand _ c.args.b (sym (ap (question4 c.args.self.now.stand) c.of-stores.ensures) ∙ p.0))

pub returns-in_err-ask-clause-demand3 : goal.returns-in_err-ask-clause-demand3
returns-in_err-ask-clause-demand3 c = port_demand3
