use Rattle.std.proofs.Common.{rules, ◌≡◌, ◌≢◌, ℕ, ◌+◌, ◌-◌, ◌<◌, ◌≤◌, ◌↔◌, ◌∙◌, sym, refl, subst, inl, inr, ⊎_elim, arith}
use Rattle.std.proofs.lemmas.Bool.{cases_eq}
use Rattle.positions.specs.Places.{Has}
use Rattle.positions.proofs.Digits.{has_or_not}
use Rattle.runs.specs.Runs.{Ends, Reflexive, Closed}
use Rattle.runs.specs.Relations.{done}
use Rattle.runs.proofs.Reaching.{reach_trans}
use Rattle.runs.proofs.Closing.{From, Still, past, past_closed, closed_row, from_more}
use Rattle.runs.proofs.relation.Runs.closed.Goals as goal
use Rattle.runs.proofs.relation.Runs.closed.Goals.{After-set_row}

pub closed_image-further-requires : goal.closed_image-further-requires
closed_image-further-requires c m k j h =
    let was = Ends c.args.self in
    let n = c.args.self.count in
    let i : ℕ = c.loop-i.i - 1 in
    let f : From was n (i + 1) (Ends c.loop-i.runs) = subst (λ k. From was n k (Ends c.loop-i.runs)) (omega arith) c.loop-i.invariant.1 in
    let (a, ne) = (c.remove-others.ensures m).0 ((c.common.ensures m).0 h).0 in
    past_closed was n (λ i j h. h.0) c.args.self.onward i (Ends c.loop-i.runs) f m k j ((f.before i m (omega arith)).0 ((c.row-row.ensures m).0 a)) ne

-- one more row is closed
closes : (c : After-set_row) → From (Ends c.args.self) c.args.self.count (c.loop-i.i - 1) (Ends c.set_row.new.self)
closes c =
    let was = Ends c.args.self in
    let n = c.args.self.count in
    let i : ℕ = c.loop-i.i - 1 in
    let lt : i < n = omega arith in
    let is = Ends c.loop-i.runs in
    let f : From was n (i + 1) is = subst (λ k. From was n k is) (omega arith) c.loop-i.invariant.1 in
    let row : (j : ℕ) → Has c.row-row.result.digits j ↔ was i j = λ j. let before = f.before i j (omega arith) in let here = c.row-row.ensures j in search rules in
    let ends = Has c.union.result.digits in
    let both = c.union.ensures in
    let own = c.insert.ensures in
    let far = c.closed_image-further.ensures in
    let but = c.remove-others.ensures in
    let going = c.common.ensures in
    from_more was n (λ i j h. h.0) c.args.self.onward i is f (Ends c.set_row.new.self) ends c.set_row.ensures.ends (closed_row was n (λ i j h. h.0) c.args.self.onward i is f ends lt (λ j. (
      λ h. ⊎_elim (λ o. inl (⊎_elim (λ a. inl ((row j).0 a)) (λ e. inr e.0) ((own j).0 o))) (λ g. let (m, p, b) = (far j).0 g in let (a, ne) = (but m).0 ((going m).0 p).0 in inr (m, ((row m).0 a, ne), b)) ((both j).0 h),
      λ w. (both j).1 (⊎_elim
          (λ o. inl ((own j).1 (⊎_elim (λ a. inl ((row j).1 a)) (λ e. inr (e, omega arith)) o)))
          (λ s.
          let m = s.0 in
          let other = (but m).1 ((row m).1 s.1.0, s.1.1) in
          ⊎_elim
          (λ goes. inr ((far j).1 (m, (going m).1 (other, goes), s.2)))
          (λ still.
          let le : c.loop-i.i ≤ m = let p = past was n (λ i j h. h.0) c.args.self.onward i is f m s.1.0 s.1.1 in omega arith in
          let same : j ≡ m = c.loop-i.invariant.2 m j le still s.2 in
          inl ((own j).1 (inl ((row j).1 (subst (was i) (sym same) s.1.0)))))
          (has_or_not c.loop-i.going.digits m))
          w),
    )))

-- and no run goes on from the places that are not in a set, if it grows by this one where a run goes on from it
stills : (c : After-set_row) (going : ℕ) → ((m : ℕ) → Has c.loop-i.going.digits m → Has going m) → ((k : ℕ) → Has c.remove-others.result.digits k → Has going (c.loop-i.i - 1)) → Still (Ends c.set_row.new.self) going (c.loop-i.i - 1)
stills c going grows goes m j le still e =
    let i : ℕ = c.loop-i.i - 1 in
    ⊎_elim
    (λ w.
    let is : m ≡ i = w.0 in
    let never : (k : ℕ) → Has c.remove-others.result.digits k → ⊥ = λ k h. still (subst (Has going) (sym is) (goes k h)) in
    ⊎_elim
    (λ o. ⊎_elim
    (λ r. ⊎_elim (λ (same : j ≡ i). same ∙ sym is) (λ (ne : j ≢ i). absurd (never j ((c.remove-others.ensures j).1 (r, ne)))) (cases_eq j i))
    (λ h. h.0 ∙ sym is)
    ((c.insert.ensures j).0 o))
    (λ g. let (k, p, _) = (c.closed_image-further.ensures j).0 g in absurd (never k ((c.common.ensures k).0 p).0))
    ((c.union.ensures j).0 w.1))
    (λ w. c.loop-i.invariant.2 m j (let ne = w.0 in grind arith) (λ h. still (grows m h)) w.1)
    ((c.set_row.ensures.ends m j).0 e)

pub loop-i-preserved-then-not-is_empty : goal.loop-i-preserved-then-not-is_empty
loop-i-preserved-then-not-is_empty c =
    let set = (goal.at.loop-i-preserved-then-not-is_empty c).After-set_row in
    let grown = c.insert-going.ensures in (
      c.set_row.ensures.kept ∙ c.loop-i.invariant.0,
      closes set,
      stills set c.insert-going.result.digits (λ m h. (grown m).1 (inl h)) (λ k h. (grown (c.loop-i.i - 1)).1 (inr (omega arith, omega arith))),
    )

pub loop-i-preserved : goal.loop-i-preserved
loop-i-preserved c =
    let set = (goal.at.loop-i-preserved c).After-set_row in
    let none : (k : ℕ) → Has c.remove-others.result.digits k → ⊥ = c.is_empty.ensures.0 (search rules) in (
      c.set_row.ensures.kept ∙ c.loop-i.invariant.0,
      closes set,
      stills set c.loop-i.going.digits (λ m h. h) (λ k h. absurd (none k h)),
    )

pub invariant_of-result : goal.invariant_of-result
invariant_of-result c =
    let from = c.loop-i.invariant.1 in
    let closed : Closed c.loop-i.runs = λ i k j a b.
    let (lt, r) = (from.after i k (omega arith)).0 a in
    (from.after i j (omega arith)).1 (lt, reach_trans r ((from.after k j (omega arith)).0 b).1) in
    let reflexive : Reflexive c.loop-i.runs = λ i lt. (from.after i i (omega arith)).1 (omega arith, done refl) in
    record { reflexive = ∣ reflexive ∣₁; closed = ∣ closed ∣₁ }
