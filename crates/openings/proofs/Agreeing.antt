-- Two meanings that agree on the names that are looked up.
use Rattle.std.proofs.Common.{◌≡◌, ℕ, List, ◌∷◌, is_some, ap, ◌∙◌}
use Rattle.faults.specs.declared.kind.Kind.{Kind}
use Rattle.lists.specs.Texts.{LawfulList}
use Rattle.openings.specs.References.{Reference, Refers}
use Rattle.openings.specs.Opening.{Name, Meaning, Known, Meets, again, new, MeetsAll, met, meet, Halts, surplus, lacking, later, ChecksFor, now_checked, later_checked, TextAt, the_list, the_group, ReadTo, start, turn, Alike}
use Rattle.openings.proofs.Knowing.{numbered_at}
use Rattle.openings.proofs.Turns.{read_checked}

-- they agree on the names that meeting these references looks up
abbrev Agrees : Meaning → Meaning → List Name → List Reference → Type 0
Agrees M M' gs rs = (g : Name) → ChecksFor M gs rs g → M' g ≡ M g

module _ {M M' : Meaning} where
  -- then they meet the first reference in the same way
  meets_alike : {gs gs' : List Name} {r : Reference} {rs : List Reference} → Agrees M M' gs (r ∷ rs) → Meets M gs r.name gs' → Meets M' gs r.name gs'
  meets_alike agree (again k) = again k
  meets_alike agree (new u lt s) = new u lt (ap is_some (agree _ (now_checked u lt)) ∙ s)

  -- and all of them
  meets_all_alike : {gs gs' : List Name} {rs : List Reference} → Agrees M M' gs rs → MeetsAll M gs rs gs' → MeetsAll M' gs rs gs'
  meets_all_alike agree met = met
  meets_all_alike agree (meet m ms) = meet (meets_alike agree m) (meets_all_alike (λ g c. agree g (later_checked m c)) ms)

  -- or halt at the same
  pub halts_alike : {gs : List Name} {rs : List Reference} {kind : Kind} {place : ℕ} → Agrees M M' gs rs → Halts M gs rs kind place → Halts M' gs rs kind place
  halts_alike agree (surplus u le) = surplus u le
  halts_alike agree (lacking u lt e) = lacking u lt (agree _ (now_checked u lt) ∙ e)
  halts_alike agree (later m h) = later (meets_alike agree m) (halts_alike (λ g c. agree g (later_checked m c)) h)

module _ {M M' : Meaning} {list : List ℕ} (alike : Alike M M' list) where
  -- groups that are known have the same text
  pub known_alike : {gs : List Name} {n : ℕ} → ReadTo M list n gs → (g : Name) → Known gs g → M' g ≡ M g
  known_alike r g k = alike g (read_checked r k)

  -- and so has every number
  pub text_alike : {gs : List Name} {n i : ℕ} {text : List ℕ} → ReadTo M list n gs → TextAt M list gs i text → TextAt M' list gs i text
  text_alike r (the_list z e) = the_list z e
  text_alike r (the_group k is lt has) = the_group k is lt (known_alike r _ (k, numbered_at k lt) ∙ has)

  -- names that a turn checks for have the same text
  pub turn_alike : {gs : List Name} {i : ℕ} {text : List ℕ} {rs : List Reference} → ReadTo M list i gs → TextAt M list gs i text → LawfulList text → Refers text rs → Agrees M M' gs rs
  turn_alike r at l f g c = alike g (record { number = _; known = _; read = r; text = _; here = at; lawful = l; references = _; refers = f; checked = c })

  -- texts are read with the same outcome
  pub read_alike : {gs : List Name} {n : ℕ} → ReadTo M list n gs → ReadTo M' list n gs
  read_alike start = start
  read_alike (turn is r at l f ms) = turn is (read_alike r) (text_alike r at) l f (meets_all_alike (turn_alike r at l f) ms)
