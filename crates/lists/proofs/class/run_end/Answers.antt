use Rattle.std.proofs.Common.{◌≡◌, drop, length, sym, true, false, refl, ap, ◌∙◌, arith, rules, tests}
use Rattle.std.proofs.lemmas.Bool.{cond-true, cond-false}
use Rattle.std.proofs.lemmas.List.{take_rest}
use Rattle.std.proofs.lemmas.Iterator.{YieldsList-from_slice, IsFirst-from_position, index_from_first}
use Rattle.std.specs.List.{prefix_len}
use Rattle.std.specs.Option.{unwrap_or}
use Rattle.lists.proofs.Segments.{prefix_run}
use Rattle.lists.proofs.class.run_end.Goals as goal

pub returns-clause-run : goal.returns-clause-run
returns-clause-run g c = λ p decides.
    let text = c.args.text.now in
    let rest = drop c.args.from text in
    let first = IsFirst-from_position _ _ c.position.result (λ b. p b ≡ false) (λ b. p b ≡ true) c.position.ensures.ran (YieldsList-from_slice rest (c.iter.ensures.rest ∙ take_rest text c.args.from)) (λ x q k. search (rules, tests)) (λ x q k. search (rules, tests)) in
    let n : prefix_len p rest ≡ c.unwrap_or.result = index_from_first (prefix_len p) (λ b. p b ≡ false) (λ b. p b ≡ true) refl (λ x xs e. cond-false _ _ _ e) (λ x xs e. cond-true _ _ _ e ∙ omega arith) rest c.position.result first ∙ ap (λ t. unwrap_or c.position.result (length t)) (sym (take_rest text c.args.from)) ∙ sym c.unwrap_or.ensures in
    prefix_run p text c.args.from _ c.requires.inside n
