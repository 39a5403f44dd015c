use Rattle.std.proofs.Common.{rules, ◌≡◌, ◌+◌, List, [], ◌∷◌, ◌++◌, take, set, sym, refl, ap, ◌∙◌, subst, subst₂, arith, length-set}
use mathlib.Core.Logic.{∥∥₁_map}
use Rattle.std.proofs.lemmas.List.{map-set}
use Rattle.std.proofs.lemmas.Result.{err_from_is_err_and}
use Rattle.openings.specs.References.{Reference, Refers}
use Rattle.openings.specs.Opened.{in_text}
use Rattle.openings.specs.Views.{text_in, texts_in}
use Rattle.openings.specs.KnownNames.{known}
use Rattle.openings.specs.MetReferences.{AllMet}
use Rattle.openings.specs.Membership.{having}
use Rattle.openings.specs.Pairs.{pairs}
use Rattle.openings.specs.Progress.{HasTexts, ReadWell}
use Rattle.openings.specs.OpeningState.{met, given}
use Rattle.openings.proofs.Outcomes.{err_source, ok_source}
use Rattle.openings.proofs.Knowing.{numbered_at}
use Rattle.openings.proofs.Meeting.{meets_keeps, halts_not_met}
use Rattle.openings.proofs.Collecting.{references, text_fault, group_halts}
use Rattle.openings.proofs.Meanings.{halt_there}
use Rattle.openings.proofs.Pairing.{texts_push}
use Rattle.openings.proofs.Giving.{gave_have, gave_well, given_more, added_there, added_ok}
use Rattle.openings.proofs.States.{texts_room, given_count, met_few, met_read, progress_of, due_at, still_due}
use Rattle.openings.proofs.opening.Opening.give.Goals as goal

pub returns-then-is_read-clause-change : goal.returns-then-is_read-clause-change
returns-then-is_read-clause-change g c name due =
    let self = c.args.self.now in
    absurd (omega (arith, (due_at self name due).below, c.is_read.ensures.0 c.if-is_read.true))

pub returns-in_err-text-clause-none_due : goal.returns-in_err-text-clause-none_due
returns-in_err-text-clause-none_due g c le =
    let self = c.args.self.now in
    absurd (omega (arith, le, given_count self, still_due self c.is_read.ensures c.if-is_read.false))

pub returns-in_err-named-clause-none_due : goal.returns-in_err-named-clause-none_due
returns-in_err-named-clause-none_due g c le =
    let self = c.args.self.now in
    absurd (omega (arith, le, given_count self, still_due self c.is_read.ensures c.if-is_read.false))

pub returns-clause-none_due : goal.returns-clause-none_due
returns-clause-none_due g c le =
    let self = c.args.self.now in
    absurd (omega (arith, le, given_count self, still_due self c.is_read.ensures c.if-is_read.false))

pub returns-in_err-text-clause-answer : goal.returns-in_err-text-clause-answer
returns-in_err-text-clause-answer g c meaning name due has through agree =
    let p = err_from_is_err_and c.from_residual.result c.from_residual.ensures.1 in
    let self = c.args.self.now in
    let at = due_at self name due in
    let source = err_source _ _ c.new.result c.in_err-text.ensures.cases in
    let is : c.in_err-text.field-0.0 ≡ in_text (self.links.len + 1) source.0 = search rules in
    rw (p.1, p.2, is) (text_fault (progress_of self meaning through) at.below (ap meaning at.is ∙ has) (rw source.1.0 at c.new.ensures.answer).told)

pub returns-in_err-named-clause-answer : goal.returns-in_err-named-clause-answer
returns-in_err-named-clause-answer g c meaning name due has through agree =
    let p = err_from_is_err_and c.from_residual-in_err-named.result c.from_residual-in_err-named.ensures.1 in
    let self = c.args.self.now in
    let at = due_at self name due in
    let x = rw (ok_source _ _ c.new.result c.in_ok-text.ensures.cases) at c.new.ensures.answer in
    let source = err_source _ _ c.meet_all.result c.in_err-named.ensures.cases in
    let is : c.in_err-named.field-0.0 ≡ in_text (self.links.len + 1) source.0 = search rules in
    rw (p.1, p.2, is) (group_halts (progress_of self meaning through) at.below (ap meaning at.is ∙ has) x.1.lawful (λ rs refers. halt_there (g.M.Membership.has c.args.members.now) meaning agree (rw source.1.0 at (c.meet_all.ensures rs (subst (λ t. Refers t rs) (sym x.0) refers)))))

pub listed : goal.listed
listed g c =
    let self = c.args.self.now in
    omega (arith, c.len-k.ensures, still_due self c.is_read.ensures c.if-is_read.false, met_few self, self.room)

pub bounds-self-k : goal.bounds-self-k
bounds-self-k g c =
    let self = c.args.self.now in
    omega (arith, c.len-k.ensures, still_due self c.is_read.ensures c.if-is_read.false, met_few self)

pub unwrap-requires : goal.unwrap-requires
unwrap-requires g c =
    let self = c.args.self.now in
    added_ok self.links c.push.new.self c.in_ok-named.named.digits c.push.result c.push.ensures (omega (arith, still_due self c.is_read.ensures c.if-is_read.false, met_few self))

pub invariant_of-self : goal.invariant_of-self
invariant_of-self g c =
    let self = c.args.self.now in
    let has = g.M.Membership.has c.args.members.now in
    let text = c.args.text.now in
    let n = self.links.len in
    let here = still_due self c.is_read.ensures c.if-is_read.false in
    let x = rw (ok_source _ _ c.new.result c.in_ok-text.ensures.cases) at c.new.ensures.answer in
    let met-there = ok_source _ _ c.meet_all.result c.in_ok-named.ensures.cases in
    let all : (rs : List Reference) → Refers text rs → AllMet (having has) (met self) rs (known c.meet_all.new.self) c.in_ok-named.named.digits = λ rs refers. rw met-there at (c.meet_all.ensures rs (subst (λ t. Refers t rs) (sym x.0) refers)) in
    let added = added_there self.links c.push.new.self c.in_ok-named.named.digits c.push.result c.push.ensures (omega (arith, here, met_few self)) in
    let held : texts_in (set self.texts c.len-k.result c.in_ok-text.text) ≡ set (texts_in self.texts) n text = ap (λ k. texts_in (set self.texts k c.in_ok-text.text)) c.len-k.ensures ∙ map-set text_in self.texts n c.in_ok-text.text ∙ ap (set (texts_in self.texts) n) x.0 in
    let (rs, refers) = references x.1.lawful in
    record {
      room = length-set self.texts c.len-k.result c.in_ok-text.text ∙ self.room;
      within = omega (arith, added.count, (meets_keeps (all rs refers).met (numbered_at n here)).below);
      well = ∥∥₁_map self.well (λ w. subst (λ ts. ReadWell (text_in self.list) (known c.meet_all.new.self) ts c.push.new.self) (sym held) (gave_well has text x.1.lawful all (numbered_at n here) (met_read self) (omega (arith, texts_room self, here, met_few self)) w added));
    }

pub returns-clause-answer : goal.returns-clause-answer
returns-clause-answer g c meaning name due holds through agree =
    let self = c.args.self.now in
    let has = g.M.Membership.has c.args.members.now in
    let text = c.args.text.now in
    let n = self.links.len in
    let at = due_at self name due in
    let x = rw (ok_source _ _ c.new.result c.in_ok-text.ensures.cases) at c.new.ensures.answer in
    let met-there = ok_source _ _ c.meet_all.result c.in_ok-named.ensures.cases in
    let all : (rs : List Reference) → Refers text rs → AllMet (having has) (met self) rs (known c.meet_all.new.self) c.in_ok-named.named.digits = λ rs refers. rw met-there at (c.meet_all.ensures rs (subst (λ t. Refers t rs) (sym x.0) refers)) in
    let added = rw c.unwrap.ensures at c.push.ensures in
    let held : texts_in (set self.texts c.len-k.result c.in_ok-text.text) ≡ set (texts_in self.texts) n text = ap (λ k. texts_in (set self.texts k c.in_ok-text.text)) c.len-k.ensures ∙ map-set text_in self.texts n c.in_ok-text.text ∙ ap (set (texts_in self.texts) n) x.0 in
    let (rs, refers) = references x.1.lawful in
    let more = given_more text (texts_in self.texts) n (all rs refers).met at (met_read self) (omega (arith, texts_room self, at.below, met_few self)) in
    record {
      texts = subst₂ (λ k ts. HasTexts meaning (pairs (take k (known c.meet_all.new.self)) ts)) (sym added.count) (sym held) (subst (HasTexts meaning) (sym more) (texts_push meaning (given self) (record { name = name; text = text }) through.texts holds));
      names = gave_have has text x.1.lawful all meaning agree through.names;
    }

pub returns-clause-change : goal.returns-clause-change
returns-clause-change g c name due =
    let self = c.args.self.now in
    let has = g.M.Membership.has c.args.members.now in
    let text = c.args.text.now in
    let n = self.links.len in
    let at = due_at self name due in
    let x = rw (ok_source _ _ c.new.result c.in_ok-text.ensures.cases) at c.new.ensures.answer in
    let met-there = ok_source _ _ c.meet_all.result c.in_ok-named.ensures.cases in
    let all : (rs : List Reference) → Refers text rs → AllMet (having has) (met self) rs (known c.meet_all.new.self) c.in_ok-named.named.digits = λ rs refers. rw met-there at (c.meet_all.ensures rs (subst (λ t. Refers t rs) (sym x.0) refers)) in
    let added = rw c.unwrap.ensures at c.push.ensures in
    let held : texts_in (set self.texts c.len-k.result c.in_ok-text.text) ≡ set (texts_in self.texts) n text = ap (λ k. texts_in (set self.texts k c.in_ok-text.text)) c.len-k.ensures ∙ map-set text_in self.texts n c.in_ok-text.text ∙ ap (set (texts_in self.texts) n) x.0 in
    let (rs, refers) = references x.1.lawful in
    let more = given_more text (texts_in self.texts) n (all rs refers).met at (met_read self) (omega (arith, texts_room self, at.below, met_few self)) in
    record {
      of_list = refl;
      one_given = subst₂ (λ k ts. pairs (take k (known c.meet_all.new.self)) ts ≡ given self ++ (record { name = name; text = text } ∷ [])) (sym added.count) (sym held) more;
      named = λ ss f. (all ss f).met;
    }

pub returns-then-is_read-clause-refused : goal.returns-then-is_read-clause-refused
returns-then-is_read-clause-refused g c name due =
    let self = c.args.self.now in
    absurd (omega (arith, (due_at self name due).below, c.is_read.ensures.0 c.if-is_read.true))

pub returns-in_err-text-clause-refused : goal.returns-in_err-text-clause-refused
returns-in_err-text-clause-refused g c =
    let p = err_from_is_err_and c.from_residual.result c.from_residual.ensures.1 in
    let source = err_source _ _ c.new.result c.in_err-text.ensures.cases in
    rw p.1 (λ meaning agree lawful rs gs refers met. (rw source.1.0 at c.new.ensures.answer).unlawful lawful)

pub returns-in_err-named-clause-refused : goal.returns-in_err-named-clause-refused
returns-in_err-named-clause-refused g c =
    let p = err_from_is_err_and c.from_residual-in_err-named.result c.from_residual-in_err-named.ensures.1 in
    let x = rw (ok_source _ _ c.new.result c.in_ok-text.ensures.cases) at c.new.ensures.answer in
    let source = err_source _ _ c.meet_all.result c.in_err-named.ensures.cases in
    rw p.1 (λ meaning agree lawful rs gs refers met. halts_not_met (halt_there (g.M.Membership.has c.args.members.now) meaning agree (rw source.1.0 at (c.meet_all.ensures rs (subst (λ t. Refers t rs) (sym x.0) refers)))).halts met)

pub returns-clause-refused : goal.returns-clause-refused
returns-clause-refused g c name due =
    let x = rw (ok_source _ _ c.new.result c.in_ok-text.ensures.cases) at c.new.ensures.answer in
    x.1.lawful
