use Rattle.std.proofs.Common.{List, ◌∷◌, sym, ap, ◌∙◌, subst, ⊎_elim}
use borrow.Author.Tests.{clash}
use Rattle.lists.specs.Lexemes.{sign}
use Rattle.openings.specs.References.{Reference}
use Rattle.openings.specs.Opening.{Name}
use Rattle.openings.specs.KnownNames.{known}
use Rattle.openings.specs.MetReferences.{Named}
use Rattle.openings.specs.Views.{text_in}
use Rattle.openings.specs.BackReferences.{Back}
use Rattle.openings.proofs.Walking.{Passing, walked, named_more, pass_start, pass_reference}
use Rattle.openings.proofs.opening.Opening.first_back.Goals as goal

pub loop-lexeme-init : goal.loop-lexeme-init
loop-lexeme-init c =
    let self = c.args.self.now in
    let home = c.args.home in
    let Holds : List Reference → Type 0 = λ rs. (h : Name) → Named rs h → Back (known self.names) c.args.leads.now home h → ⊥ in
    let same = c.into_iter-lexeme-iterator.ensures.into_iter_gives in (
      tt,
      tt,
      ap (λ t. t.text.now) same ∙ c.tokens-lexeme-items.ensures.text,
      λ ps p. subst (Passing (text_in c.args.text.now) Holds ps) (sym (ap (λ t. t.at) same ∙ c.tokens-lexeme-items.ensures.start)) (pass_start Holds (λ h n b. n) p),
    )

pub loop-lexeme-preserved-else-leads_back : goal.loop-lexeme-preserved-else-leads_back
loop-lexeme-preserved-else-leads_back c =
    let self = c.args.self.now in
    let Is : Name → Type 0 = Back (known self.names) c.args.leads.now c.args.home in
    let walks = c.in-Some.ensures.steps in
    let no : Is c.in-Group.name.now → ⊥ = λ b. clash (sym c.if-leads_back.false ∙ c.leads_back.ensures.1 b) in (
      tt,
      tt,
      walks.kept ∙ c.loop-lexeme.invariant.2,
      λ ps p.
          let u = c.loop-lexeme.invariant.3 ps p in
          let (rest, step) = (walked c.loop-lexeme.invariant.2 walks).token u.left u.placed in
          pass_reference u rest (step.0 ∙ ap (λ t. (c.in-Some.lexeme.place, sign t) ∷ rest) c.in-Group.is) step.1
          (λ h n b. ⊎_elim (λ was. u.holds h was b) (λ e. no (subst Is (sym e) b)) (named_more u.done _ n)),
    )
