-- Names that spawns make have a name's form.
use Rattle.std.proofs.Common.{◌≡◌, ℕ, suc, ◌+◌, ◌≤◌, List, [], ◌∷◌, length, length-append, append-nil, drop, take-append-drop, sym, refl, ap, subst, arith, ⊎_elim}
use Rattle.std.proofs.lemmas.Bool.{cases_lt}
use Rattle.faults.specs.declared.fault.Fault.{Fault}
use Rattle.faults.specs.declared.kind.Kind.TheVariants.{NameTooLong}
use Rattle.names.specs.Words.{Joined}
use Rattle.names.specs.Names.{Part, word, dot, spell, Partial, single, dotted, program as program_step, only, Steps, Spelled, LawfulName, LawfulPartial}
use Rattle.names.specs.Faults.{mark_byte, NameFault, long, stuck, parts}
use Rattle.names.proofs.Chains.{chain_append}
use Rattle.names.proofs.Forms.{joined_name, name_joined, partial_joined}
use Rattle.names.proofs.OneFault.{no_name_fault}
use Rattle.histories.specs.Processes.{spawned, spawned_in_role}
use Rattle.station.specs.Laws.{MadeNames}

name_words : (text : List ℕ) → LawfulName text → Joined mark_byte text
name_words text h = name_joined (record { parts = h.0; form = h.1.form; spelling = h.1.spelling })

partial_words : (text : List ℕ) → LawfulPartial text → Joined mark_byte text
partial_words text h = subst (Joined mark_byte) h.form.spelling (partial_joined mark_byte refl h.form.form)

-- a text of a name's form has no fault but its length
long_alone : (text : List ℕ) (f : Fault) → Joined mark_byte text → NameFault text f → f.kind ≡ NameTooLong
long_alone text _ h (long lt) = refl
long_alone text _ h (stuck {place = place} le s) =
    ⊎_elim
    (λ lt. absurd (s.beyond lt (drop (place + 1) text, subst (Spelled Steps) (sym (take-append-drop (place + 1) text)) (joined_name h))))
    (λ ge. absurd (s.short (omega (arith, ge, s.within)) (joined_name h)))
    (cases_lt place (length text))
long_alone text _ h (parts le form spelling many) = refl

-- a partial name has an odd number of parts, and no more than bytes
odd_parts : {ps : List Part} → Partial ps → (n : ℕ) × ((length ps ≡ n + n + 1) × (length ps ≤ length (spell ps)))
odd_parts (single {w = w} h) =
    let size : length (spell (word w ∷ [])) ≡ length w = ap length (append-nil w) in
    (0, (refl, omega (arith, size, h.some)))
odd_parts (dotted {w = w} {ps = ps} h p) =
    let r = odd_parts p in
    let size : length (spell (word w ∷ dot ∷ ps)) ≡ length w + suc (length (spell ps)) = length-append w (46 ∷ spell ps) in
    (r.0 + 1, (omega (arith, r.1.0), omega (arith, size, r.1.1, h.some)))

-- a partial name of at most 64 bytes has at most 63 parts, so it is a name
partial_name : (text : List ℕ) → LawfulPartial text → LawfulName text
partial_name text h =
    let r = odd_parts h.form.form in
    let size = ap length h.form.spelling in (
      h.form.parts,
      record {
        form = only (program_step h.form.form);
        spelling = h.form.spelling;
        short = omega (arith, h.short);
        few = omega (arith, r.1.0, r.1.1, size, h.short);
      },
    )

pub made_names : (parent role program : List ℕ) (f : Fault) → MadeNames parent role program f
made_names parent role program f = record {
  plain = λ p g. long_alone (spawned parent program) f (chain_append mark_byte (name_words parent p) refl (partial_words program g));
  in_role = λ p r g. long_alone (spawned_in_role parent role program) f (chain_append mark_byte (chain_append mark_byte (name_words parent p) refl (partial_words role r)) refl (partial_words program g));
  itself = λ g h. no_name_fault program f h (partial_name program g);
}
