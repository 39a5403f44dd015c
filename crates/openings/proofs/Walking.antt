-- Meeting the references of a text while its tokens are walked.
use Rattle.std.proofs.Common.{◌≡◌, ℕ, ◌<◌, ◌⊎◌, ◌↔◌, List, [], ◌∷◌, ◌++◌, Option, sym, refl, ap, ◌∙◌, subst, inl, inr, ⊎_elim, append_assoc}
use Rattle.positions.specs.Places.{Has}
use Rattle.lists.specs.Trees.{Sign, group}
use Rattle.lists.specs.declared.token.Lexeme.{Lexeme}
use Rattle.lists.specs.Placed.{Placed, Walks}
use Rattle.openings.specs.References.{Reference, references_of}
use Rattle.openings.specs.Opening.{Name, Meaning, Numbered, Meets, again, new, met, meet}
use Rattle.openings.specs.MetReferences.{Named, AllMet}
use Rattle.openings.proofs.Meeting.{meets_append}
use Rattle.openings.proofs.Knowing.{push_keeps}

-- a group that is known keeps its number
pub meet_keeps : {M : Meaning} {gs gs' : List Name} {g h : Name} {k : ℕ} → Meets M gs h gs' → Numbered gs g k → Numbered gs' g k
meet_keeps (again n) m = m
meet_keeps (new u f s) m = push_keeps _ _ m

-- what one more reference names
pub named_more : (rs : List Reference) (r : Reference) {g : Name} → Named (rs ++ (r ∷ [])) g → Named rs g ⊎ (r.name ≡ g)
named_more [] r (inl e) = inr e
named_more [] r (inr n) = absurd n
named_more (x ∷ rs) r (inl e) = inl (inl e)
named_more (x ∷ rs) r (inr n) = ⊎_elim (λ m. inl (inr m)) (λ e. inr e) (named_more rs r n)

pub named_front : (rs ss : List Reference) (g : Name) → Named rs g → Named (rs ++ ss) g
named_front [] ss g n = elim n [ ]
named_front (x ∷ rs) ss g (inl e) = inl e
named_front (x ∷ rs) ss g (inr n) = inr (named_front rs ss g n)

pub named_last : (rs : List Reference) (r : Reference) → Named (rs ++ (r ∷ [])) r.name
named_last [] r = inl refl
named_last (x ∷ rs) r = inr (named_last rs r)

-- a step of the walk, at a text that is known by another name
pub walked : {text here text' : List ℕ} {at at' : ℕ} {given : Option Lexeme} → text ≡ here → Walks text at given text' at' → Walks here at given text' at'
walked {text' = text'} {at = at} {at' = at'} {given = given} e w = subst (λ t. Walks t at given text' at') e w

-- The walk stands at a place: something holds of the references before it, and the tokens that are left lie ahead.
pub record Passing (text : List ℕ) (Holds : List Reference → Type 0) (ps : List (ℕ × Sign)) (at : ℕ) : Type 0 where
  pub done : List Reference
  pub left : List (ℕ × Sign)
  pub whole : references_of ps ≡ done ++ references_of left
  pub placed : Placed text at left
  pub holds : Holds done

module _ {text : List ℕ} {ps : List (ℕ × Sign)} where
  pub pass_start : (Holds : List Reference → Type 0) → Holds [] → Placed text 0 ps → Passing text Holds ps 0
  pass_start Holds h p = record { done = []; left = ps; whole = refl; placed = p; holds = h }

  -- the references are those before, the one that is given, and those ahead
  pub pass_here : {Holds : List Reference → Type 0} {at place : ℕ} {g : Name} (u : Passing text Holds ps at) (rest : List (ℕ × Sign)) → u.left ≡ (place, group g) ∷ rest → references_of ps ≡ u.done ++ (record { place = place; name = g } ∷ references_of rest)
  pass_here u rest e = u.whole ∙ ap (λ left. u.done ++ references_of left) e

  -- a reference is passed
  pub pass_reference : {Holds After : List Reference → Type 0} {at at' place : ℕ} {g : Name} (u : Passing text Holds ps at) (rest : List (ℕ × Sign)) → u.left ≡ (place, group g) ∷ rest → Placed text at' rest → After (u.done ++ (record { place = place; name = g } ∷ [])) → Passing text After ps at'
  pass_reference {place = place} {g = g} u rest e p h =
      let r : Reference = record { place = place; name = g } in
      record { done = u.done ++ (r ∷ []); left = rest; whole = pass_here u rest e ∙ sym (append_assoc u.done (r ∷ []) (references_of rest)); placed = p; holds = h }

module _ {M : Meaning} {gs₀ : List Name} where
  pub none_met : (named : ℕ) → ((k : ℕ) → Has named k → ⊥) → AllMet M gs₀ [] gs₀ named
  none_met named none = record { met = met; only = λ k h. absurd (none k h); every = λ g n. absurd n }

  -- one more reference is met
  pub one_met : {rs : List Reference} {gs gs' : List Name} {named named' k : ℕ} (r : Reference) → AllMet M gs₀ rs gs named → Meets M gs r.name gs' → Numbered gs' r.name k → ((j : ℕ) → Has named' j ↔ (Has named j ⊎ ((j ≡ k) × (k < 64)))) → k < 64 → AllMet M gs₀ (rs ++ (r ∷ [])) gs' named'
  one_met {rs} {gs' = gs'} {k = k} r a m n has below =
      record {
        met = meets_append a.met (meet m met);
        only = λ j h.
            ⊎_elim
            (λ was. let (g, x) = a.only j was in (g, (named_front rs (r ∷ []) g x.0, meet_keeps m x.1)))
            (λ is. (r.name, (named_last rs r, subst (Numbered gs' r.name) (sym is.0) n)))
            ((has j).0 h);
        every = λ g named-g.
            ⊎_elim
            (λ was. let (j, x) = a.every g was in (j, (meet_keeps m x.0, (has j).1 (inl x.1))))
            (λ e. (k, (subst (λ h. Numbered gs' h k) e n, (has k).1 (inr (refl, below)))))
            (named_more rs r named-g);
      }
