-- A walk over the parts of a name, and the outline of the parts so far.
use Rattle.std.proofs.Common.{◌≡◌, ℕ, ◌+◌, ◌<◌, ◌≤◌, List, [], ◌∷◌, ◌++◌, length, get_or, take, drop, Some, None, Option, sym, ap, ◌∙◌, subst, ⊎_elim, arith, MatchOption}
use Rattle.std.proofs.lemmas.List.{take_more}
use Rattle.std.proofs.lemmas.Bool.{cases_lt}
use Rattle.names.specs.declared.part.Part.{Part as WalkedPart}
use Rattle.names.specs.Names.{Part, dot, spell, Steps, IsName}
use Rattle.names.specs.Parts.{part_of, Walks}
use Rattle.name_parts.specs.Slices.{PartAt}
use Rattle.name_parts.specs.Outlines.{start_of, count_of, Outlined, Noted, OutlineOf}
use Rattle.name_parts.specs.declared.outline.Outline.{Outline}
use Rattle.name_parts.proofs.Standing.{part_here}
use Rattle.name_parts.proofs.Spelling.{cut, end_is}

-- the walk stands behind the parts that are noted
pub record Behind (ps : List Part) (place : ℕ) (o : Outline) : Type 0 where
  pub outlined : Outlined ps o
  pub there : place ≡ start_of ps (count_of o)

-- the walk over the name that a text is
abbrev pub Sofar : List ℕ → ℕ → Outline → Type 0
Sofar text place o = (ps : List Part) → IsName text ps → Behind ps place o

module _ (text : List ℕ) (ps : List Part) (name : IsName text ps) where
  module _ (place n : ℕ) (there : place ≡ start_of ps n) (given : Option (ℕ × WalkedPart)) (text' : List ℕ) (place' : ℕ) (walks : Walks text place given text' place') where
    -- the part at place n is given, and the walk stands behind it
    abbrev Gives : Option (ℕ × WalkedPart) → Type 0
    Gives o = MatchOption o ⊥ (λ g. (g.0 ≡ place) × (part_of g.1 ≡ get_or ps n dot) × (place' ≡ length (spell (take n ps ++ (get_or ps n dot ∷ [])))))

    shown : n < length ps → Gives given
    shown lt =
        let row = cut ps (get_or ps n dot) n (part_here ps n dot lt) in
        walks.part (take n ps) (get_or ps n dot) (drop (n + 1) ps) (subst Steps (sym row) name.form) (ap spell row ∙ name.spelling) there

    -- no part is given only where there is none
    pub given_none : n ≤ length ps → given ≡ None → n ≡ length ps
    given_none le e = ⊎_elim (λ lt. absurd (subst Gives e (shown lt))) (λ past. omega arith) (cases_lt n (length ps))

    -- a part that is given is the next one
    module _ (start : ℕ) (part : WalkedPart) (e : given ≡ Some (start, part)) where
      pub inside : n < length ps
      inside = ⊎_elim (λ lt. lt) (λ le. absurd (both_given (walks.end (omega (arith, there, end_is ps text name n le))).0)) (cases_lt n (length ps))
        where
          both_given : given ≡ None → ⊥
          both_given none = cc

      pub given_part : PartAt ps (part_of part) n
      given_part = subst (λ p. PartAt ps p n) (sym (subst Gives e (shown inside)).1) (part_here ps n dot inside)

      pub given_start : start ≡ start_of ps n
      given_start = (subst Gives e (shown inside)).0 ∙ there

      pub given_end : place' ≡ start_of ps (n + 1)
      given_end = (subst Gives e (shown inside)).2 ∙ ap (λ qs. length (spell qs)) (sym (take_more ps n dot inside))

-- one step of the walk
module _ (text : List ℕ) (place : ℕ) (o : Outline) (sofar : Sofar text place o) (given : Option (ℕ × WalkedPart)) (text' : List ℕ) (place' : ℕ) (walks : Walks text place given text' place') where
  pub sofar_more : (start : ℕ) (part : WalkedPart) → given ≡ Some (start, part) → (o' : Outline) → Noted o start part o' → Sofar text place' o'
  sofar_more start part e o' noted ps name =
      let was = sofar ps name in record {
        outlined = noted.outlined ps was.outlined (given_part text ps name place (count_of o) was.there given text' place' walks start part e) (given_start text ps name place (count_of o) was.there given text' place' walks start part e);
        there = given_end text ps name place (count_of o) was.there given text' place' walks start part e ∙ ap (start_of ps) (sym noted.more);
      }

  pub sofar_all : given ≡ None → OutlineOf text o
  sofar_all e ps name =
      let was = sofar ps name in
      record { outlined = was.outlined; all = given_none text ps name place (count_of o) was.there given text' place' walks was.outlined.within e }
