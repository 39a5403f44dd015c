use Rattle.std.proofs.Common.{◌≡◌, rules, ap, get_or, [], ◌+◌, ◌<◌, length, sym, refl, ◌∙◌, subst, ⊎_elim, arith}
use Rattle.std.proofs.lemmas.Bool.{cases_lt}
use Rattle.std.proofs.lemmas.List.{get_or-map, get_or-take, length-take-le}
use Rattle.lists.proofs.Deciding.{lawful_list}
use Rattle.openings.specs.References.{Refers}
use Rattle.openings.specs.Opening.{the_list, the_group}
use Rattle.openings.specs.Views.{text_in, texts_in}
use Rattle.openings.proofs.Collecting.{references}
use Rattle.openings.proofs.Lacking.{unnamed_all, referred, lacking_told}
use Rattle.openings.proofs.States.{held_lawful, met_few, progress_supposed, text_given, due_at}
use Rattle.openings.proofs.opening.Opening.lacking.Goals as goal

pub returns-in-Some : goal.returns-in-Some
returns-in-Some c meaning due texts lacks =
    let self = c.args.self.now in
    let (rs, refers) = references (lawful_list _ self.list.lawful) in
    rw (c.at.ensures) (lacking_told meaning (progress_supposed self meaning texts) (text_given self meaning texts) c.args.name.now (due_at self _ due) lacks 0 (omega arith) (λ j lt. absurd (omega (arith, lt))) (the_list refl refl) refers (c.in-Some.ensures rs refers))

pub loop-k-init : goal.loop-k-init
loop-k-init c m lt = absurd (omega (arith, lt))

pub returns-in-Some-first_reference : goal.returns-in-Some-first_reference
returns-in-Some-first_reference c meaning due texts lacks =
    let self = c.args.self.now in
    let k = c.loop-k.k in
    let G = progress_supposed self meaning texts in
    let held = text_given self meaning texts in
    let at = due_at self _ due in
    let lt : k < self.links.len = omega (arith, c.loop-k-test.true, c.len.ensures, self.room, self.within, met_few self, length-take-le c.len.result self.texts (omega (arith, c.len.ensures, self.room, self.within, met_few self))) in
    let room : k < length self.texts = omega (arith, lt, self.room, self.within, met_few self) in
    let own = get_or-map text_in self.texts k c.text-item.result [] room in
    let item : get_or self.texts k c.text-item.result ≡ c.text-item.result = sym (get_or-take c.len.result self.texts k c.text-item.result (omega (arith, lt, c.len.ensures))) ∙ search rules in
    let (rs, refers) = references (held_lawful self.texts k room) in
    let none = unnamed_all meaning G held c.args.name.now at c.in_default.ensures k (omega (arith, lt)) c.loop-k.invariant in
    rw (c.in_text.ensures, c.at-in-Some-first_reference.ensures)
    (lacking_told meaning G held c.args.name.now at lacks (k + 1) (omega (arith, lt)) none (the_group k refl (omega (arith, lt, self.within)) (G.texts_held k lt)) refers (c.in-Some-first_reference.ensures rs (subst (λ t. Refers t rs) (own ∙ ap text_in item) refers)))

pub loop-k-preserved : goal.loop-k-preserved
loop-k-preserved c m below rs refers named =
    let self = c.args.self.now in
    let k = c.loop-k.k in
    let lt : k < self.links.len = omega (arith, c.loop-k-test.true, c.len.ensures, self.room, self.within, met_few self, length-take-le c.len.result self.texts (omega (arith, c.len.ensures, self.room, self.within, met_few self))) in
    let room : k < length self.texts = omega (arith, lt, self.room, self.within, met_few self) in
    let own = get_or-map text_in self.texts k c.text-item.result [] room in
    let item : get_or self.texts k c.text-item.result ≡ c.text-item.result = sym (get_or-take c.len.result self.texts k c.text-item.result (omega (arith, lt, c.len.ensures))) ∙ search rules in
    ⊎_elim
    (λ before. c.loop-k.invariant m before rs refers named)
    (λ le. let is : m ≡ k = omega arith in c.in_default-first_reference.ensures rs (subst (λ t. Refers t rs) (ap (λ x. get_or (texts_in self.texts) x []) is ∙ own ∙ ap text_in item) refers) named)
    (cases_lt m k)

pub returns : goal.returns
returns c meaning due texts lacks =
    let self = c.args.self.now in
    let G = progress_supposed self meaning texts in
    let held = text_given self meaning texts in
    let at = due_at self _ due in
    let n : self.links.len ≡ c.loop-k.k = omega (arith, c.loop-k-test.false, c.len.ensures, self.room, self.within, met_few self, length-take-le c.len.result self.texts (omega (arith, c.len.ensures, self.room, self.within, met_few self))) in
    referred meaning G held c.args.name.now at (unnamed_all meaning G held c.args.name.now at c.in_default.ensures self.links.len (omega arith) (λ m lt. c.loop-k.invariant m (omega (arith, lt, n))))
