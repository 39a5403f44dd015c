use Rattle.std.proofs.Common.{◌≡◌, ℕ, ◌<◌, min, ◌↔◌, sym, ◌∙◌, subst}
use Rattle.runs.specs.Runs.{Ends}
use Rattle.runs.specs.Relations.{Reach}
use Rattle.name_parts.specs.Dotted.{OneWord, DotWord, DotWords}
use Rattle.name_parts.proofs.Sameness.{advanced_same, reach_same, composed_same, trans_same}
use Rattle.name_parts.proofs.dotted.dotted_words.Goals as goal

pub returns-clause-ends : goal.returns-clause-ends
returns-clause-ends c =
    let n = min c.args.count 64 in
    let words = c.args.words.digits in
    let dots = c.args.dots.digits in
    let one_word : (i j : ℕ) → Ends c.advance-3.new.self i j ↔ OneWord n words dots i j = trans_same c.advance-3.ensures.ends (advanced_same c.start-runs.ensures.ends words) in
    let a_dot = trans_same c.advance.ensures.ends (advanced_same c.start-dot_word.ensures.ends dots) in
    let dot_word : (i j : ℕ) → Ends c.advance-2.new.self i j ↔ DotWord n words dots i j = trans_same c.advance-2.ensures.ends (advanced_same a_dot words) in
    let counted : c.advance-2.new.self.count ≡ n = c.advance-2.ensures.kept ∙ c.advance.ensures.kept ∙ c.start-dot_word.ensures.counted in
    let from : (i j : ℕ) → ((i < c.advance-2.new.self.count) × Reach (Ends c.advance-2.new.self) i j) ↔ DotWords n words dots i j = λ i j. (λ r. (subst (λ k. i < k) counted r.0, (reach_same dot_word i j).0 r.1), λ r. (subst (λ k. i < k) (sym counted) r.0, (reach_same dot_word i j).1 r.1)) in
    trans_same c.follow.ensures.ends (composed_same one_word (trans_same c.closed.ensures.ends from))
