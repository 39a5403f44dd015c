-- What leads where, when texts have been read.
use Rattle.std.proofs.Common.{◌≡◌, ℕ, ◌+◌, List, [], length, get_or, refl, ap, ◌∙◌, subst, ⊎_elim, arith}
use Rattle.openings.specs.References.{RefersAt}
use Rattle.openings.specs.Opening.{Name, Meaning, Known, TextAt, the_list, the_group, ReadTo, start, turn}
use Rattle.openings.specs.Circles.{Names, Leads, here, on, ListLeads, OnCircle}
use Rattle.openings.proofs.Knowing.{numbered_at}
use Rattle.openings.proofs.Meeting.{known_checked, checked_named}
use Rattle.openings.proofs.Collecting.{named_refers}
use Rattle.openings.proofs.Turns.{references_known}

module _ {M : Meaning} where
  -- what leads to a group leads to what that names
  leads_on : {g h m : Name} → Leads M g h → Names M h m → Leads M g m
  leads_on here n = on n here
  leads_on (on n l) m = on n (leads_on l m)

module _ {M : Meaning} {list : List ℕ} where
  module _ {gs : List Name} (all : ReadTo M list (length gs + 1) gs) where
    -- what a known group names is known, when all texts have been read
    pub named_known : {g h : Name} → Known gs g → Names M g h → Known gs h
    named_known k n = references_known all (the_group k.0 refl k.1.below (ap M k.1.is ∙ n.has)) n.refers

    -- and so is what it leads to
    leads_known : {g h : Name} → Known gs g → Leads M g h → Known gs h
    leads_known k here = k
    leads_known k (on n l) = leads_known (named_known k n) l

    -- and what the list leads to
    pub list_leads_known : {g : Name} → ListLeads M list g → Known gs g
    list_leads_known l = leads_known (references_known all (the_list refl refl) l.refers) l.leads

  -- the list leads to what a text names, if it leads to the groups that are known
  named_led : {gs : List Name} {i place : ℕ} {text : List ℕ} {g : Name} → ((h : Name) → Known gs h → ListLeads M list h) → TextAt M list gs i text → RefersAt text place g → ListLeads M list g
  named_led {place = place} {g = g} led (the_list z e) f = record { place = place; first = g; refers = subst (λ t. RefersAt t place g) e f; leads = here }
  named_led {gs} {place = place} led (the_group k is lt has) f =
      let l = led (get_or gs k []) (k, numbered_at k lt) in
      record { place = l.place; first = l.first; refers = l.refers; leads = leads_on l.leads (record { text = _; has = has; place = place; refers = f }) }

  -- the list leads to every group that is known
  pub known_led : {gs : List Name} {n : ℕ} → ReadTo M list n gs → (g : Name) → Known gs g → ListLeads M list g
  known_led start g k = absurd (omega (arith, k.1.below))
  known_led (turn is r at l f ms) g k = ⊎_elim (known_led r g) (λ c. named_led (known_led r) at (named_refers f (checked_named c)).1) (known_checked ms k)

module _ {M M' : Meaning} {list : List ℕ} {gs : List Name} (all : ReadTo M list (length gs + 1) gs) (agree : (g : Name) → Known gs g → M' g ≡ M g) where
  -- known groups name the same by meanings that agree on them
  pub names_across : {g h : Name} → Known gs g → Names M g h → Names M' g h
  names_across {g} k n = record { text = n.text; has = agree g k ∙ n.has; place = n.place; refers = n.refers }

  -- they lead to the same
  pub leads_across : {g h : Name} → Known gs g → Leads M g h → Leads M' g h
  leads_across k here = here
  leads_across k (on n l) = on (names_across k n) (leads_across (named_known all k n) l)

  -- and the same references lie on circles
  pub circle_across : {i place : ℕ} → OnCircle M gs i place → OnCircle M' gs i place
  circle_across {place = place} c =
      let g = get_or gs c.number [] in
      let k : Known gs g = (c.number, numbered_at c.number c.below) in
      let n : Names M g c.named = record { text = c.text; has = c.has; place = place; refers = c.refers } in
      record { number = c.number; is = c.is; below = c.below; text = c.text; has = agree g k ∙ c.has; named = c.named; refers = c.refers; back = leads_across (named_known all k n) c.back }
