use Rattle.std.proofs.Common.{◌≡◌, true, false, sym, ap, ◌∙◌, rules, tests, take, drop}
use Rattle.std.proofs.lemmas.Iterator.{IsFirst-from_position, YieldsList-from_slice}
use Rattle.csv_text.specs.Written.{is_digit}
use Rattle.csv_text.proofs.NumeralLaws.{digits-end, digits-are, rest-is}
use Rattle.csv_text.proofs.numerals.split_digits.Goals as goal

pub returns : goal.returns
unfolding is_digit
returns c =
    let t = c.args.text.now in
    let n = c.unwrap_or-n.ensures ∙ sym (digits-end t _ (IsFirst-from_position _ _ _ (λ b. is_digit b ≡ false) (λ b. is_digit b ≡ true) c.position.ensures.ran (YieldsList-from_slice t cc) (λ x q k. search (rules, tests)) (λ x q k. search (rules, tests)))) in
    (c.split_at.ensures.front ∙ ap (λ k. take k t) n ∙ digits-are t, c.split_at.ensures.back ∙ ap (λ k. drop k t) n ∙ rest-is t)
