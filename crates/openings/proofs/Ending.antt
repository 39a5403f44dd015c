-- An opening that ends well is an opened list.
use Rattle.std.proofs.Common.{◌≡◌, ℕ, ◌≤◌, List, length, sym, subst, ◌∙◌, arith}
use Rattle.links.specs.declared.links.Links.{Links}
use Rattle.openings.specs.declared.opening.Opening.{Opening}
use Rattle.openings.specs.declared.opened.Opened.{Opened}
use Rattle.openings.specs.Opening.{Meaning}
use Rattle.openings.specs.Opened.{Opens}
use Rattle.openings.specs.Views.{texts_in}
use Rattle.openings.specs.Pairs.{pairs}
use Rattle.openings.specs.Whole.{Whole, Tells}
use Rattle.openings.specs.Answers.{Answered, list_of, groups_of, OpenedAs}
use Rattle.openings.specs.OpeningState.{listed, met, given, Through, Ends}
use Rattle.openings.proofs.Concluding.{opened_as, table_opens, table_tells}
use Rattle.openings.proofs.States.{given_count, all_given, texts_enough, all_read, own_read}

module _ (o : Opening) {leads : Links} (ends : Ends o leads) where
  full : length (met o) ≤ o.links.len
  full = omega (arith, ends.none_due, given_count o)

  opens : Whole (listed o) (pairs (met o) (texts_in o.texts))
  opens = table_opens (texts_enough o full) (own_read o full) (ends.no_circle _ (own_read o full))

  pub whole : ∥ Whole (listed o) (pairs (met o) (texts_in o.texts)) ∥₁
  whole = ∣ opens ∣₁

  pub counted : leads.len ≡ length (met o)
  counted = ends.count ∙ all_given o full

  pub ordered : ∥ Tells (pairs (met o) (texts_in o.texts)) leads ∥₁
  ordered = ∣ table_tells (texts_enough o full) (own_read o full) leads ends.closes opens ∣₁

  pub opened : (r : Opened) → list_of r ≡ listed o → groups_of r ≡ pairs (met o) (texts_in o.texts) → (M : Meaning) → Through M o → OpenedAs M (listed o) r
  opened r list groups M through =
      let is : Opens M (listed o) (pairs (met o) (texts_in o.texts)) = table_opens (texts_enough o full) (all_read o full M through) (ends.no_circle M (all_read o full M through)) in
      opened_as r list (subst (λ t. Opens M (listed o) t) (sym groups) is)

  pub opened_of : (r : Opened) → list_of r ≡ listed o → groups_of r ≡ pairs (met o) (texts_in o.texts) → {list : List ℕ} → listed o ≡ list → (M : Meaning) → Through M o → OpenedAs M list r
  opened_of r same groups is M through = subst (λ t. OpenedAs M t r) is (opened r same groups M through)
