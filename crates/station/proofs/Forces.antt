-- The list in force, as the rows of places say it.
use Rattle.std.proofs.Common.{◌≡◌, ℕ, List, Some, None, ap, ◌∙◌}
use Rattle.std.specs.Option.{option_map}
use Rattle.registers.specs.Rows.{found}
use Rattle.registers.specs.Registers.{rows_in_use}
use Rattle.names.specs.Paths.{LawfulPath, LiesAbove, IsParent}
use Rattle.histories.specs.Histories.{History}
use Rattle.histories.specs.Places.{Postings, list_below, or_next, first_below, paths_above, in_force, list_in_force}
use Rattle.histories.proofs.Above.{above_parent, above_none}
use Rattle.station.specs.declared.place.Place.{Place}
use Rattle.station.specs.declared.station.Station.{Station}
use Rattle.station.specs.Stations.{path_of, lists_of, lists_at, StationAfter}

module _ (postings : Postings) (path : List ℕ) (lawful : ∥ LawfulPath path ∥₁) where
  -- no path lies above
  pub none_below : ((up : List ℕ) → LiesAbove up path → ⊥) → first_below postings (paths_above path) ≡ None
  none_below none = ap (first_below postings) (above_none path lawful none)

  -- the parent is posted, or what lies above it decides
  below_parent : (up : List ℕ) → IsParent up path → first_below postings (paths_above path) ≡ or_next (option_map list_below (postings up)) (first_below postings (paths_above up))
  below_parent up h = ap (first_below postings) (above_parent path up lawful h)

module _ (rows : List Place) (path : List ℕ) (lawful : ∥ LawfulPath path ∥₁) (up : List ℕ) (parent : IsParent up path) where
  pub parent_posted : (place : Place) → found path_of rows up ≡ Some place → first_below (lists_at rows) (paths_above path) ≡ Some (list_below (lists_of place))
  parent_posted place h = below_parent (lists_at rows) path lawful up parent ∙ ap (λ o. or_next (option_map list_below (option_map lists_of o)) (first_below (lists_at rows) (paths_above up))) h

  pub parent_passed : found path_of rows up ≡ None → first_below (lists_at rows) (paths_above path) ≡ first_below (lists_at rows) (paths_above up)
  parent_passed h = below_parent (lists_at rows) path lawful up parent ∙ ap (λ o. or_next (option_map list_below (option_map lists_of o)) (first_below (lists_at rows) (paths_above up))) h

-- what the rows say is what the history says
pub force_after : (past : History) (s : Station) (k path : List ℕ) → StationAfter past s → k ≡ path → in_force (lists_at (rows_in_use s.places)) k ≡ list_in_force past path
force_after past s k path h is = ap (in_force (lists_at (rows_in_use s.places))) is ∙ (λ i. in_force (λ q. h.lists q i) path)
