-- Chains by the places between their ends, with one place let in at a time.
use Rattle.std.proofs.Common.{◌≡◌, ℕ, ◌+◌, ◌<◌, ◌≢◌, ◌⊎◌, ◌↔◌, subst, inl, inr, ⊎_elim, arith}
use Rattle.std.proofs.lemmas.Bool.{cases_eq}
use Rattle.links.specs.Links.{Chain, one, more}

-- one or more steps lead from i to j, and each place between is below k
pub data Via (Step : ℕ → ℕ → Type 0) (k : ℕ) : ℕ → ℕ → Type 0 where
  straight : {i j : ℕ} → Step i j → Via Step k i j
  through : {i m j : ℕ} → m < k → Step i m → Via Step k m j → Via Step k i j

-- i is related to j, or i to k and k to j
abbrev pub Joined : (ℕ → ℕ → Type 0) → ℕ → ℕ → ℕ → Type 0
Joined Now k i j = Now i j ⊎ (Now i k × Now k j)

module _ {Step : ℕ → ℕ → Type 0} where
  -- what is below k is below k + 1
  wider : {k i j : ℕ} → Via Step k i j → Via Step (k + 1) i j
  wider (straight s) = straight s
  wider (through b s v) = through (omega arith) s (wider v)

  -- two chains that meet at a place below k
  meet : {k m i j : ℕ} → m < k → Via Step k i m → Via Step k m j → Via Step k i j
  meet b (straight s) w = through b s w
  meet b (through c s v) w = through c s (meet b v w)

  -- a step to a place below k, in front
  step_below : {k i m j : ℕ} → m < k → Step i m → Joined (Via Step k) k m j → Joined (Via Step k) k i j
  step_below b s (inl v) = inl (through b s v)
  step_below b s (inr (v, w)) = inr (through b s v, w)

  -- a step to k itself, in front
  step_to : {k i j : ℕ} → Step i k → Joined (Via Step k) k k j → Joined (Via Step k) k i j
  step_to s (inl v) = inr (straight s, v)
  step_to s (inr (v, w)) = inr (straight s, w)

  -- a chain whose places between are below k + 1, parted at k
  part : {k i j : ℕ} → Via Step (k + 1) i j → Joined (Via Step k) k i j
  part (straight s) = inl (straight s)
  part {k} {i} {j} (through {m = m} b s v) =
      ⊎_elim
      (λ (e : m ≡ k). step_to (subst (Step i) e s) (subst (λ n. Joined (Via Step k) k n j) e (part v)))
      (λ (ne : m ≢ k). step_below (omega arith) s (part v))
      (cases_eq m k)

  -- no place let in: one step
  pub via_none : (i j : ℕ) → Step i j ↔ Via Step 0 i j
  via_none i j = (straight, alone)
    where
      alone : {i j : ℕ} → Via Step 0 i j → Step i j
      alone (straight s) = s
      alone (through b s v) = absurd (omega arith)

  -- one place more let in
  pub via_more : {Now Next : ℕ → ℕ → Type 0} (k : ℕ) → ((i j : ℕ) → Now i j ↔ Via Step k i j) → ((i j : ℕ) → Next i j ↔ Joined Now k i j) → (i j : ℕ) → Next i j ↔ Via Step (k + 1) i j
  via_more k is grown i j = (
    λ h. ⊎_elim (λ a. wider ((is i j).0 a)) (λ (a, b). meet (omega arith) (wider ((is i k).0 a)) (wider ((is k j).0 b))) ((grown i j).0 h),
    λ v. (grown i j).1 (⊎_elim (λ a. inl ((is i j).1 a)) (λ (a, b). inr ((is i k).1 a, (is k j).1 b)) (part v)),
  )

  -- all places let in that a step starts at: any chain
  pub via_all : {Now : ℕ → ℕ → Type 0} (n : ℕ) → ((i j : ℕ) → Step i j → i < n) → ((i j : ℕ) → Now i j ↔ Via Step n i j) → (i j : ℕ) → Now i j ↔ Chain Step i j
  via_all n starts is i j = (λ a. forth ((is i j).0 a), λ c. (is i j).1 (back c))
    where
      forth : {i j : ℕ} → Via Step n i j → Chain Step i j
      forth (straight s) = one s
      forth (through b s v) = more s (forth v)

      first : {i j : ℕ} → Chain Step i j → i < n
      first (one s) = starts _ _ s
      first (more s c) = starts _ _ s

      back : {i j : ℕ} → Chain Step i j → Via Step n i j
      back (one s) = straight s
      back (more s c) = through (first c) s (back c)
