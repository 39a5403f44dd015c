-- The laws of opening.
use Rattle.std.proofs.Common.{◌≡◌, ℕ, ◌+◌, List, length, sym, refl, ap, ◌∙◌, subst, subst₂, arith}
use Rattle.faults.specs.declared.fault.Fault.{Fault}
use Rattle.books.specs.Tables.{Table, text_of}
use Rattle.openings.specs.Opening.{Meaning, ReadTo}
use Rattle.openings.specs.Circles.{Leads}
use Rattle.openings.specs.Opened.{names_of, Opens, OpenFault, unlawful, halts, circle}
use Rattle.openings.specs.Laws.{OneAnswer, Complete, DependsOnChecked}
use Rattle.openings.proofs.Turns.{stops_one, all_stops, read_few, read_distinct, checks_known}
use Rattle.openings.proofs.Circling.{list_leads_known, known_led, circle_across}
use Rattle.openings.proofs.Agreeing.{known_alike, text_alike, turn_alike, read_alike, halts_alike}
use Rattle.openings.proofs.Stopping.{Stop, stopped, stop_turns, stop_one, stop_circle}
use Rattle.openings.proofs.TableTexts.{length_names, names_table, text_known, texts_across}

-- an opening that succeeds has read all texts
pub opens_all : {M : Meaning} {list : List ℕ} {t : Table} → Opens M list t → ReadTo M list (length (names_of t) + 1) (names_of t)
opens_all {M} {list} {t} o = subst (λ n. ReadTo M list (n + 1) (names_of t)) (sym (length_names t)) o.read

-- an opening has one answer at most
pub one_answer : (M : Meaning) (list : List ℕ) → OneAnswer M list
one_answer M list = record { groups = groups; fault = fault; apart = apart }
  where
    groups : (s t : Table) → Opens M list s → Opens M list t → s ≡ t
    groups s t a b =
        let p = opens_all a in
        let q = opens_all b in
        names_table M s t (stops_one p (all_stops p) q (all_stops q)).1 a.texts b.texts

    fault : (f g : Fault) → OpenFault M list f → OpenFault M list g → f ≡ g
    fault f g a b =
        let s = stopped a in
        let t = stopped b in
        let same = stops_one t.read (stop_turns t.stop) s.read (stop_turns s.stop) in
        stop_one s.stop (subst₂ (λ i gs. Stop M list gs i g) same.0 same.1 t.stop)

    apart : (t : Table) (f : Fault) → Opens M list t → OpenFault M list f → ⊥
    apart t f o a =
        let p = opens_all o in
        let s = stopped a in
        let same = stops_one s.read (stop_turns s.stop) p (all_stops p) in
        stop_circle (subst₂ (λ i gs. Stop M list gs i f) same.0 same.1 s.stop) o.no_circle

-- the groups that an opening reaches are those that the list leads to
pub complete : (M : Meaning) (list : List ℕ) (groups : Table) → Opens M list groups → Complete M list groups
complete M list groups o =
    let all = opens_all o in
    record {
      every = λ g l. list_leads_known all l;
      only = known_led all;
      once = read_distinct all;
      few = omega (arith, length_names groups, read_few all);
      no_circle = λ g h k n l. o.no_circle (k.0 + 1) n.place
          (record { number = k.0; is = refl; below = k.1.below; text = n.text; has = ap M k.1.is ∙ n.has; named = h; refers = n.refers; back = subst (Leads M h) (sym k.1.is) l });
    }

-- an opening depends on a book only through the names that it looks up
pub same_answer : (list : List ℕ) → DependsOnChecked list
same_answer list M M' alike = record { groups = groups; faults = faults }
  where
    groups : (t : Table) → Opens M list t → Opens M' list t
    groups t o =
        let all = opens_all o in
        let agree = known_alike alike all in
        record {
          read = read_alike alike o.read;
          texts = texts_across M M' t agree o.texts;
          no_circle = λ i place c. o.no_circle i place (circle_across (read_alike alike all) (λ g k. sym (agree g k)) c);
        }

    faults : (f : Fault) → OpenFault M list f → OpenFault M' list f
    faults f (unlawful r at lf) = unlawful (read_alike alike r) (text_alike alike r at) lf
    faults f (halts r at l rs h) = halts (read_alike alike r) (text_alike alike r at) l rs (halts_alike (turn_alike alike r at l rs) h)
    faults f (circle all first) =
        let agree = known_alike alike all in
        circle (read_alike alike all)
        (record { circle = circle_across all agree first.circle; first = λ j q c. first.first j q (circle_across (read_alike alike all) (λ g k. sym (agree g k)) c) })

-- the groups that an opening reaches are a table that opens the list by itself
pub opens_own : (M : Meaning) (list : List ℕ) (groups : Table) → Opens M list groups → Opens (text_of groups) list groups
opens_own M list groups o = (same_answer list M (text_of groups) (λ g c. text_known M groups g o.texts (checks_known (opens_all o) c))).groups groups o
