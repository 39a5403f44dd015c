-- The list in force is the one that the nearest posted path has.
use Rattle.std.proofs.Common.{◌≡◌, ℕ, ◌<◌, ◌≤◌, true, List, [], ◌∷◌, length, get_or, take, take_at, take_all, is_some, Some, None, Option, refl, sym, ap, ◌∙◌, subst, arith, ⊎_elim, inl, inr}
use Rattle.std.proofs.lemmas.Option.{same_Some, none-some}
use Rattle.std.specs.Option.{option_map}
use Rattle.names.specs.Paths.{LawfulPath, LiesAbove}
use Rattle.histories.specs.Places.{Lists, list_below, Postings, posted, or_next, first_below, in_force, paths_above}
use Rattle.histories.specs.InForce.{Covers, InForce, own_list, from_above}
use Rattle.histories.specs.Laws.{OneNearest, NearestDecides, NothingPosted, ByWholeWords}
use Rattle.histories.proofs.Members.{In, Falling}
use Rattle.histories.proofs.Above.{above_lie, lie_above, above_falling, lie_shorter}

no_some : {A : Type 0} (o : Option A) (x : A) → o ≡ Some x → o ≡ None → ⊥
no_some o x h k = none-some x (sym k ∙ h)

lacking : {A : Type 0} (o : Option A) → o ≡ None → is_some o ≡ true → ⊥
lacking None h k = cc
lacking (Some x) h k = none-some x (sym h)

not_some : {A : Type 0} (o : Option A) → (is_some o ≡ true → ⊥) → o ≡ None
not_some None h = refl
not_some (Some x) h = absurd (h refl)

-- the first posted one of paths, with its lists
record First (postings : Postings) (ups : List (List ℕ)) (list : List ℕ) : Type 0 where
  up : List ℕ
  lists : Lists
  among : In up ups
  is_posted : postings up ≡ Some lists
  is_list : list_below lists ≡ list
  longest : (other : List ℕ) → In other ups → is_some (postings other) ≡ true → length other ≤ length up

first_posted : (postings : Postings) (up : List ℕ) (ups : List (List ℕ)) (list : List ℕ) (lists : Lists) → postings up ≡ Some lists → list_below lists ≡ list → Falling (up ∷ ups) → First postings (up ∷ ups) list
first_posted postings up ups list lists is e fall = record {
  up = up;
  lists = lists;
  among = inl refl;
  is_posted = is;
  is_list = e;
  longest = λ other i k. ⊎_elim (λ e. let n = ap length e in omega (arith, n)) (λ j. let lt : length other < length up = fall.0 other j in omega (arith, lt)) i;
}

first_later : (postings : Postings) (up : List ℕ) (ups : List (List ℕ)) (list : List ℕ) → postings up ≡ None → First postings ups list → First postings (up ∷ ups) list
first_later postings up ups list is r = record {
  up = r.up;
  lists = r.lists;
  among = inr r.among;
  is_posted = r.is_posted;
  is_list = r.is_list;
  longest = λ other i k. ⊎_elim (λ e. absurd (lacking (postings other) (ap postings e ∙ is) k)) (λ j. r.longest other j k) i;
}

first_by : (postings : Postings) (up : List ℕ) (ups : List (List ℕ)) (list : List ℕ) (o : Option Lists) → postings up ≡ o → or_next (option_map list_below o) (first_below postings ups) ≡ Some list → Falling (up ∷ ups) → (first_below postings ups ≡ Some list → First postings ups list) → First postings (up ∷ ups) list
first_by postings up ups list (Some lists) is h fall ih = first_posted postings up ups list lists is (same_Some (list_below lists) list h) fall
first_by postings up ups list None is h fall ih = first_later postings up ups list is (ih h)

first_some : (postings : Postings) (ups : List (List ℕ)) (list : List ℕ) → first_below postings ups ≡ Some list → Falling ups → First postings ups list
first_some postings [] list h fall = absurd (none-some list h)
first_some postings (up ∷ ups) list h fall = first_by postings up ups list (postings up) refl h fall (λ k. first_some postings ups list k fall.1)

next_none : (o p : Option (List ℕ)) → or_next o p ≡ None → (o ≡ None) × (p ≡ None)
next_none None p h = (refl, h)
next_none (Some x) p h = absurd (none-some x (sym h))

map_none : {A B : Type 0} (f : A → B) (o : Option A) → option_map f o ≡ None → o ≡ None
map_none f None h = refl
map_none f (Some x) h = absurd (none-some (f x) (sym h))

first_none : (postings : Postings) (ups : List (List ℕ)) → first_below postings ups ≡ None → (other : List ℕ) → In other ups → postings other ≡ None
first_none postings [] h other i = absurd i
first_none postings (up ∷ ups) h other i =
    let k = next_none (option_map list_below (postings up)) (first_below postings ups) h in
    ⊎_elim (λ e. ap postings e ∙ map_none list_below (postings up) k.0) (λ j. first_none postings ups k.1 other j) i

none_first : (postings : Postings) (ups : List (List ℕ)) → ((other : List ℕ) → In other ups → postings other ≡ None) → first_below postings ups ≡ None
none_first postings [] h = refl
none_first postings (up ∷ ups) h = ap (λ o. or_next (option_map list_below o) (first_below postings ups)) (h up (inl refl)) ∙ none_first postings ups (λ other i. h other (inr i))

-- what covers a path is a front of it
covers_front : (path up : List ℕ) → Covers up path → up ≡ take (length up) path
covers_front path up (inl e) = sym (take_all (length up) up (omega arith)) ∙ ap (take (length up)) e
covers_front path up (inr h) = sym (take_at up (47 ∷ h.rest) (length up) refl) ∙ ap (take (length up)) (sym h.joint)

covers_short : (path up : List ℕ) → Covers up path → length up ≤ length path
covers_short path up (inl e) = let n = ap length e in omega (arith, n)
covers_short path up (inr h) = let lt = lie_shorter path up h in omega (arith, lt)

posted_some : {A : Type 0} (o : Option A) (x : A) → o ≡ Some x → is_some o ≡ true
posted_some o x h = ap is_some h

pub one_nearest : OneNearest
one_nearest postings path up other lists others h k =
    let le = h.longest other k.covers (posted_some (postings other) others k.posted) in
    let ge = k.longest up h.covers (posted_some (postings up) lists h.posted) in
    let e : length up ≡ length other = omega (arith, le, ge) in
    covers_front path up h.covers ∙ ap (λ n. take n path) e ∙ sym (covers_front path other k.covers)

same_lists : (postings : Postings) (up other : List ℕ) (lists others : Lists) → postings up ≡ Some lists → postings other ≡ Some others → up ≡ other → lists ≡ others
same_lists postings up other lists others h k e = same_Some lists others (sym h ∙ ap postings e ∙ k)

not_above_itself : (path : List ℕ) → LiesAbove path path → ⊥
not_above_itself path h = let lt = lie_shorter path path h in omega (arith, lt)

-- one list at most is in force
one_in_force : (postings : Postings) (path a b : List ℕ) → InForce postings path a → InForce postings path b → a ≡ b
one_in_force postings path _ _ (own_list {lists = l} h) (own_list {lists = m} k) =
    ap (λ x. x.own) (same_lists postings path path l m h.posted k.posted refl)
one_in_force postings path _ _ (own_list {lists = l} h) (from_above {up = up} {lists = m} lies k) =
    let e = one_nearest postings path path up l m h k in
    absurd (not_above_itself path (subst (λ t. LiesAbove t path) (sym e) lies))
one_in_force postings path _ _ (from_above {up = up} {lists = l} lies h) (own_list {lists = m} k) =
    let e = one_nearest postings path up path l m h k in
    absurd (not_above_itself path (subst (λ t. LiesAbove t path) e lies))
one_in_force postings path _ _ (from_above {up = up} {lists = l} lies h) (from_above {up = other} {lists = m} lies' k) =
    let e = one_nearest postings path up other l m h k in
    ap list_below (same_lists postings up other l m h.posted k.posted e)

-- the list that is found is in force
own_by : (postings : Postings) (path list : List ℕ) (lists : Lists) → postings path ≡ Some lists → lists.own ≡ list → InForce postings path list
own_by postings path list lists h e = subst (InForce postings path) e (own_list (record { posted = h; covers = inl refl; longest = λ other c k. covers_short path other c }))

above_by : (postings : Postings) (path list : List ℕ) → LawfulPath path → postings path ≡ None → First postings (paths_above path) list → InForce postings path list
above_by postings path list lawful h f =
    let lies = above_lie path f.up ∣ lawful ∣₁ f.among in
    subst (InForce postings path) f.is_list
    (from_above lies (record {
      posted = f.is_posted;
      covers = inr lies;
      longest = λ other c k. ⊎_elim (λ e. absurd (lacking (postings other) (ap postings e ∙ h) k)) (λ l. f.longest other (lie_above path other l) k) c;
    }))

found_by : (postings : Postings) (path list : List ℕ) → LawfulPath path → (o : Option Lists) → postings path ≡ o → or_next (option_map (λ lists. lists.own) o) (first_below postings (paths_above path)) ≡ Some list → InForce postings path list
found_by postings path list lawful (Some lists) is h = own_by postings path list lists is (same_Some lists.own list h)
found_by postings path list lawful None is h = above_by postings path list lawful is (first_some postings (paths_above path) list h (above_falling path))

pub found_in_force : (postings : Postings) (path list : List ℕ) → LawfulPath path → in_force postings path ≡ Some list → InForce postings path list
found_in_force postings path list lawful h = found_by postings path list lawful (postings path) refl h

pub nothing_found : (postings : Postings) (path : List ℕ) → in_force postings path ≡ None → (up : List ℕ) → Covers up path → postings up ≡ None
nothing_found postings path h up c =
    let k = next_none (option_map (λ lists. lists.own) (postings path)) (first_below postings (paths_above path)) h in
    ⊎_elim (λ e. ap postings e ∙ map_none (λ lists. lists.own) (postings path) k.0) (λ l. first_none postings (paths_above path) k.1 up (lie_above path up l)) c

in_force_covered : (postings : Postings) (path list : List ℕ) → InForce postings path list → ((up : List ℕ) → Covers up path → postings up ≡ None) → ⊥
in_force_covered postings path _ (own_list {lists = l} h) none = no_some (postings path) l h.posted (none path h.covers)
in_force_covered postings path _ (from_above {up = up} {lists = l} lies h) none = no_some (postings up) l h.posted (none up h.covers)

in_force_by : (postings : Postings) (path list : List ℕ) → LawfulPath path → InForce postings path list → (o : Option (List ℕ)) → in_force postings path ≡ o → o ≡ Some list
in_force_by postings path list lawful h None is = absurd (in_force_covered postings path list h (nothing_found postings path is))
in_force_by postings path list lawful h (Some other) is = ap Some (one_in_force postings path other list (found_in_force postings path other lawful is) h)

pub nearest_decides : NearestDecides
nearest_decides past path list lawful = (found_in_force (posted past) path list lawful, λ h. in_force_by (posted past) path list lawful h (in_force (posted past) path) refl)

pub nothing_posted : NothingPosted
nothing_posted past path lawful = (
  nothing_found (posted past) path,
  λ none.
      ap (λ o. or_next (option_map (λ lists. lists.own) o) (first_below (posted past) (paths_above path))) (none path (inl refl))
      ∙ none_first (posted past) (paths_above path) (λ other i. none other (inr (above_lie path other ∣ lawful ∣₁ i))),
)

pub by_whole_words : ByWholeWords
by_whole_words h = let k : 50 ≡ 47 = ap (λ t. get_or t 3 0) h.joint in omega (arith, k)
