-- From what has been read within a bracket, the signs that are left make a tree.
use Rattle.std.proofs.Common.{◌≡◌, ℕ, ◌⊎◌, List, [], ◌∷◌, ◌++◌, sym, refl, subst, inl, inr, append_assoc, append-nil}
use Rattle.std.specs.List.{AllByRecursion}
use Rattle.lists.specs.Trees.{Atom, Sign, atom, group, open_bracket, close_bracket, star, bar, Item, plain, bracket, starred, named, Seq, one, then, Alts, only, or, Tree, empty, list, item_signs, seq_signs, alts_signs}
use Rattle.lists.specs.Texts.{tree_signs}
use Rattle.lists.proofs.UniqueTree.{puts, puts_fresh, puts_barred}
use Rattle.lists.proofs.Build.{Level, fresh, barred, full, put, star_alts}
use Rattle.lists.proofs.Elements.{every_front, every_back}
use Rattle.derivations.specs.References.{item_groups, seq_groups, alts_groups, tree_groups}

-- the signs that are left make the tree, and each group that they name has a property
pub data Left (P : List ℕ → Type 0) (t : Tree) : Level → List Sign → Type 0 where
  all_read : {l : Alts} → t ≡ list l → Left P t (full l) []
  none_read : t ≡ empty → Left P t fresh []
  atom_next : {u : Level} {a : Atom} {r : List Sign} → Left P t (put u (plain a)) r → Left P t u (atom a ∷ r)
  group_next : {u : Level} {g : List ℕ} {r : List Sign} → P g → Left P t (put u (named g)) r → Left P t u (group g ∷ r)
  bracket_next : {u : Level} {q : List Sign} (m : Alts) (r : List Sign) → AllByRecursion P (alts_groups m) → q ≡ alts_signs m ++ (close_bracket ∷ r) → Left P t (put u (bracket m)) r → Left P t u (open_bracket ∷ q)
  star_next : {a : Alts} {r : List Sign} → Left P t (full (star_alts a)) r → Left P t (full a) (star ∷ r)
  bar_next : {a : Alts} {r : List Sign} → Left P t (barred a) r → Left P t (full a) (bar ∷ r)

module _ (P : List ℕ → Type 0) (t : Tree) where
  -- a star behind an item that was put last
  put_star : (u : Level) (x : Item) {r : List Sign} → Left P t (put u (starred x)) r → Left P t (put u x) (star ∷ r)
  put_star fresh x n = star_next n
  put_star (barred l) x n = star_next n
  put_star (full (only s)) x n = star_next n
  put_star (full (or l s)) x n = star_next n

  -- the signs of an item, a sequence and a list come before those that are left when it has been read
  mutual
    left_item : (u : Level) (x : Item) (r : List Sign) → AllByRecursion P (item_groups x) → Left P t (put u x) r → Left P t u (item_signs x ++ r)
    left_item u (plain a) r h n = atom_next n
    left_item u (bracket m) r h n = bracket_next m r h (append_assoc (alts_signs m) (close_bracket ∷ []) r) n
    left_item u (starred x) r h n = subst (Left P t u) (sym (append_assoc (item_signs x) (star ∷ []) r)) (left_item u x (star ∷ r) h (put_star u x n))
    left_item u (named g) r h n = group_next h.0 n

    left_seq : (u : Level) (s : Seq) (r : List Sign) → AllByRecursion P (seq_groups s) → Left P t (puts u s) r → Left P t u (seq_signs s ++ r)
    left_seq u (one x) r h n = left_item u x r h n
    left_seq u (then s x) r h n =
        let front = every_front P (seq_groups s) (item_groups x) h in
        let back = every_back P (seq_groups s) (item_groups x) h in
        subst (Left P t u) (sym (append_assoc (seq_signs s) (item_signs x) r)) (left_seq u s (item_signs x ++ r) front (left_item (puts u s) x r back n))

    left_alts : (l : Alts) (r : List Sign) → AllByRecursion P (alts_groups l) → Left P t (full l) r → Left P t fresh (alts_signs l ++ r)
    left_alts (only s) r h n = left_seq fresh s r h (subst (λ u. Left P t u r) (sym (puts_fresh s)) n)
    left_alts (or l s) r h n =
        let front = every_front P (alts_groups l) (seq_groups s) h in
        let back = every_back P (alts_groups l) (seq_groups s) h in
        subst (Left P t fresh) (sym (append_assoc (alts_signs l) (bar ∷ seq_signs s) r)) (left_alts l (bar ∷ (seq_signs s ++ r)) front (bar_next (left_seq (barred l) s r back (subst (λ u. Left P t u r) (sym (puts_barred l s)) n))))

-- before anything has been read all the signs of the tree are left
pub left_all : (P : List ℕ → Type 0) (t : Tree) → AllByRecursion P (tree_groups t) → Left P t fresh (tree_signs t)
left_all P empty h = none_read refl
left_all P (list l) h = subst (Left P (list l) fresh) (append-nil (alts_signs l)) (left_alts P (list l) l [] h (all_read refl))

-- a bracket that comes next: what stands in it, and what is left after it
pub record Bracketed (P : List ℕ → Type 0) (t : Tree) (u : Level) (q : List Sign) : Type 0 where
  pub inside : Alts
  pub beyond : List Sign
  pub ready : AllByRecursion P (alts_groups inside)
  pub signs : q ≡ alts_signs inside ++ (close_bracket ∷ beyond)
  pub left : Left P t (put u (bracket inside)) beyond

-- what is left after each sign
module _ {P : List ℕ → Type 0} {t : Tree} where
  pub left_atom : {u : Level} {a : Atom} {r : List Sign} → Left P t u (atom a ∷ r) → Left P t (put u (plain a)) r
  left_atom (atom_next n) = n

  pub left_group : {u : Level} {g : List ℕ} {r : List Sign} → Left P t u (group g ∷ r) → P g × Left P t (put u (named g)) r
  left_group (group_next p n) = (p, n)

  pub left_open : {u : Level} {q : List Sign} → Left P t u (open_bracket ∷ q) → Bracketed P t u q
  left_open (bracket_next m r h e n) = record { inside = m; beyond = r; ready = h; signs = e; left = n }

  pub left_star : {u : Level} {r : List Sign} → Left P t u (star ∷ r) → (a : Alts) × ((u ≡ full a) × Left P t (full (star_alts a)) r)
  left_star (star_next {a = a} n) = (a, (refl, n))

  pub left_bar : {u : Level} {r : List Sign} → Left P t u (bar ∷ r) → (a : Alts) × ((u ≡ full a) × Left P t (barred a) r)
  left_bar (bar_next {a = a} n) = (a, (refl, n))

  pub left_close : {u : Level} {r : List Sign} → Left P t u (close_bracket ∷ r) → ⊥
  left_close n = elim n [ ]

  pub left_end : {u : Level} → Left P t u [] → ((a : Alts) × ((t ≡ list a) × (u ≡ full a))) ⊎ ((t ≡ empty) × (u ≡ fresh))
  left_end (all_read {l = l} e) = inl (l, (e, refl))
  left_end (none_read e) = inr (e, refl)
