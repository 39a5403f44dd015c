use Rattle.std.proofs.Common.{◌≡◌, ◌<◌, ◌≤◌, length, None, get_or, sym, refl, ap, ◌∙◌, subst, arith, rules}
use mathlib.Core.Logic.{∥∥₁_map}
use Rattle.names.specs.Parts.{part_of, Walks}
use Rattle.names.proofs.Places.{mark_of}
use Rattle.names.proofs.Walking.{other_mark, walks_end, walks_word, walks_mark, word_on, mark_on}
use Rattle.names.proofs.part.PartsIterator.next.Goals as goal
use Rattle.names.proofs.part.PartsIterator.next.Goals.{in-46, in-64, in_default}

pub invariant_of-self : goal.invariant_of-self
invariant_of-self c =
    let self = c.args.self.now in
    record { stands = ∥∥₁_map self.stands (word_on self.text.now self.at c.word_end-end.result c.if-end-place.true c.word_end-end.ensures) }

pub invariant_of-self-2 : goal.invariant_of-self-2
invariant_of-self-2 c =
    let self = c.args.self.now in
    record { stands = ∥∥₁_map self.stands (mark_on self.text.now self.at c.word_end-end.result (search rules) c.if-end-place.false c.word_end-end.ensures) }

pub returns-in_err-first-clause-steps : goal.returns-in_err-first-clause-steps
returns-in_err-first-clause-steps c =
    let self = c.args.self.now in
    let none : c.from_residual.result ≡ None = search rules in
    let past : length self.text.now ≤ self.at = search rules in
    subst (λ given. Walks self.text.now self.at given self.text.now self.at) (sym none) (walks_end self.text.now self.at past)

pub returns-then-end-place-clause-steps : goal.returns-then-end-place-clause-steps
returns-then-end-place-clause-steps c =
    let self = c.args.self.now in
    walks_word self.text.now self.at _ c.word_end-end.result c.if-end-place.true c.word_end-end.ensures refl

pub returns-clause-steps : goal.returns-clause-steps
returns-clause-steps c =
    let self = c.args.self.now in
    let within : self.at < length self.text.now = search rules in
    let b = c.in_ok-first.field-0.now in
    let here : b ≡ get_or self.text.now self.at 0 = search rules in
    let mark : part_of c.match-first.part ≡ mark_of b =
    elim c.match-first.branch [
      | in-46 w ↦ ap part_of w.part-is ∙ ap mark_of (sym w.in-46.is)
      | in-64 w ↦ ap part_of w.part-is ∙ ap mark_of (sym w.in-64.is)
      | in_default w ↦ ap part_of w.part-is ∙ sym (other_mark b (λ e. omega arith) (λ e. omega arith))
    ] in
    walks_mark self.text.now self.at c.match-first.part c.word_end-end.result within c.if-end-place.false c.word_end-end.ensures (mark ∙ ap mark_of here)
