use Rattle.std.proofs.Common.{◌≡◌, ap, get_or, rules, [], ◌+◌, ◌<◌, length, sym, ◌∙◌, subst, ⊎_elim, arith}
use borrow.Author.Tests.{clash}
use Rattle.std.proofs.lemmas.Bool.{cases_lt}
use Rattle.std.proofs.lemmas.List.{get_or-map, get_or-take, length-take-le}
use Rattle.openings.specs.References.{Refers}
use Rattle.openings.specs.Circles.{OnCircle}
use Rattle.openings.specs.Views.{text_in}
use Rattle.openings.specs.OpeningState.{met}
use Rattle.openings.proofs.Holding.{known_count}
use Rattle.openings.proofs.Leading.{circle_fault, no_self, no_back, first_back}
use Rattle.openings.proofs.Concluding.{text_refers}
use Rattle.openings.proofs.opening.Opening.check_circles.Goals as goal
use Rattle.openings.proofs.opening.Opening.check_circles.Goals.{then-has+in_default, else-has}

pub returns-in-Some : goal.returns-in-Some
returns-in-Some c M list all closes =
    let self = c.args.self.now in
    let k = c.loop-k.k in
    let size : length self.texts ≡ 32 = search rules in
    let here : k < length (met self) = omega (arith, known_count self.names, c.loop-k-test.true) in
    let (rs, refers) = text_refers all k here in
    let own = get_or-map text_in self.texts k c.text-item.result [] (omega (arith, c.loop-k-test.true, self.names.few, size)) in
    let item : get_or self.texts k c.text-item.result ≡ c.text-item.result = sym (get_or-take self.names.count self.texts k c.text-item.result (omega (arith, c.loop-k-test.true, length-take-le self.names.count self.texts (omega (arith, self.names.few, size))))) ∙ search rules in
    rw (c.in_text.ensures, c.at.ensures) (circle_fault all (first_back all c.args.leads.now closes k here refers (c.in-Some.ensures rs (subst (λ t. Refers t rs) (own ∙ ap text_in item) refers)) (c.loop-k.invariant M list all closes)))

pub loop-k-preserved : goal.loop-k-preserved
loop-k-preserved c M list all closes j q le circle =
    let self = c.args.self.now in
    let leads = c.args.leads.now in
    let k = c.loop-k.k in
    let size : length self.texts ≡ 32 = search rules in
    let here : k < length (met self) = omega (arith, known_count self.names, c.loop-k-test.true) in
    let (rs, refers) = text_refers all k here in
    let none : OnCircle M (met self) (k + 1) q → ⊥ =
    elim c.if-has.branch [
      | then-has+in_default w ↦
          let own = get_or-map text_in self.texts k c.text-item.result [] (omega (arith, c.loop-k-test.true, self.names.few, size)) in
          let item : get_or self.texts k c.text-item.result ≡ c.text-item.result = sym (get_or-take self.names.count self.texts k c.text-item.result (omega (arith, c.loop-k-test.true, length-take-le self.names.count self.texts (omega (arith, self.names.few, size))))) ∙ search rules in
          no_back all leads closes k here refers (w.in_default.ensures rs (subst (λ t. Refers t rs) (own ∙ ap text_in item) refers)) q
      | else-has w ↦ no_self all leads closes k here (λ l. clash (sym w.if-has.false ∙ c.has.ensures.1 l)) q
    ] in
    ⊎_elim
    (λ lt. c.loop-k.invariant M list all closes j q (omega arith) circle)
    (λ ge. let is : j ≡ k + 1 = omega arith in none (subst (λ i. OnCircle M (met self) i q) is circle))
    (cases_lt j (k + 1))

pub returns : goal.returns
returns c M list all closes i place circle =
    let self = c.args.self.now in
    c.loop-k.invariant M list all closes i place (omega (arith, circle.is, circle.below, known_count self.names, c.loop-k-test.false)) circle
