use Rattle.std.proofs.Common.{◌≡◌, rules, ◌<◌, List, ◌∷◌, sym, refl, ap, ◌∙◌, subst, arith}
use Rattle.texts.specs.Shown.{shown}
use Rattle.lists.specs.Lexemes.{sign}
use Rattle.openings.specs.Membership.{having}
use Rattle.openings.specs.References.{Reference, references_of}
use Rattle.openings.specs.Opening.{Halts}
use Rattle.openings.specs.KnownNames.{known}
use Rattle.openings.specs.MetReferences.{AllMet}
use Rattle.openings.proofs.Holding.{known_count}
use Rattle.std.proofs.lemmas.Result.{err_from_is_err_and}
use Rattle.openings.proofs.Outcomes.{err_source, ok_source}
use Rattle.openings.proofs.Meeting.{halts_append}
use Rattle.openings.proofs.Walking.{Passing, walked, pass_start, pass_here, pass_reference, none_met, one_met}
use Rattle.openings.proofs.known.KnownGroups.meet_all.Goals as goal

pub loop-lexeme-init : goal.loop-lexeme-init
loop-lexeme-init g c =
    let Holds : List Reference → Type 0 = λ rs. AllMet (having (g.M.Membership.has c.args.members.now)) (known c.args.self.now) rs (known c.args.self.now) c.empty-named.result.digits in
    let same = c.into_iter-lexeme-iterator.ensures.into_iter_gives in (
      tt,
      tt,
      ap (λ t. t.text.now) same ∙ c.tokens-lexeme-items.ensures.text,
      λ ps p. subst (Passing (shown c.args.list.now.text) Holds ps) (sym (ap (λ t. t.at) same ∙ c.tokens-lexeme-items.ensures.start)) (pass_start Holds (none_met c.empty-named.result.digits c.empty-named.ensures) p),
    )

pub loop-lexeme-preserved-in-Group : goal.loop-lexeme-preserved-in-Group
loop-lexeme-preserved-in-Group g c =
    let walks = c.in-Some.ensures.steps in
    let after = c.meet.new.self in
    let source = ok_source _ _ c.meet.result c.in_ok-k.ensures.cases in
    let met = rw source at c.meet.ensures in
    let below : c.in_ok-k.k < 64 = omega (arith, met.1.below, known_count after, after.few) in (
      tt,
      tt,
      walks.kept ∙ c.loop-lexeme.invariant.2,
      λ ps p.
          let u = c.loop-lexeme.invariant.3 ps p in
          let (rest, step) = (walked c.loop-lexeme.invariant.2 walks).token u.left u.placed in
          pass_reference u rest (step.0 ∙ ap (λ t. (c.in-Some.lexeme.place, sign t) ∷ rest) c.in-Group.is) step.1 (one_met _ u.holds met.0 met.1 c.insert-named.ensures below),
    )

pub returns-in_err-k : goal.returns-in_err-k
returns-in_err-k g c rs refers =
    let p = err_from_is_err_and c.from_residual.result c.from_residual.ensures.1 in
    let M = having (g.M.Membership.has c.args.members.now) in
    let u = c.loop-lexeme.invariant.3 refers.tokens refers.placed in
    let (rest, step) = (walked c.loop-lexeme.invariant.2 c.in-Some.ensures.steps).token u.left u.placed in
    let place = c.in-Some.lexeme.place in
    let all = refers.these ∙ pass_here u rest (step.0 ∙ ap (λ t. (place, sign t) ∷ rest) c.in-Group.is) in
    let source = err_source _ _ c.meet.result c.in_err-k.ensures.cases in
    let halts = rw source.1.0 at c.meet.ensures in
    let is : c.in_err-k.field-0.0 ≡ record { kind = source.0; text = 0; place = place } = search rules in
    rw (p.1, p.2, is) (record { first = refl; halts = subst (λ rs. Halts M (known c.args.self.now) rs source.0 place) (sym all) (halts_append u.holds.met (halts place (references_of rest))) })
