use Rattle.std.proofs.Common.{◌≡◌, ◌+◌, false, nat_eq, [], ◌∷◌, length, Result, Ok, Err, MatchResult, take, sym, ap, ◌∙◌, subst, arith, rules}
use Rattle.faults.specs.declared.fault.Fault.{Fault}
use Rattle.std.specs.Result.{IsErrAnd}
use Rattle.std.proofs.lemmas.Result.{err_from_is_err_and}
use Rattle.names.specs.Paths.{IsPath, LawfulPath}
use Rattle.names.specs.Faults.{fault, PathFault, long_path}
use Rattle.names.proofs.Forms.{slash_byte, slash_apart}
use Rattle.names.proofs.Slashes.{slashed, path_of, path_slip, path_first}
use Rattle.faults.specs.declared.kind.Kind.TheVariants.{PathUnlawful}
use Rattle.std.specs.Cmp.Lexicographic.{pointwise, other_text}
use Rattle.names.specs.Words.{Joined, count_of}
use Rattle.names.specs.Joints.{Unjoined}
use Rattle.names.proofs.OneFault.{path_accepted, path_refused}
use Rattle.names.proofs.path.PathLawfulText.new.Goals as goal

-- what is known of a result, where `map_err` has made another of it
kept : {T : Type 0} (given made : Result T Fault) (x : T) (Made : Fault → Fault → Type 0) (P : Type 0) (C : T → Type 0) (Q : Fault → Type 0) → MatchResult given (λ y. made ≡ Ok y) (λ e. IsErrAnd made (Made e)) → made ≡ Ok x → MatchResult given (λ n. P × C n) Q → P
kept (Ok y) made x Made P C Q is e h = h.0
kept (Err f) made x Made P C Q is e h = absurd (subst (λ r. IsErrAnd r (Made f)) e is)

mapped : {T : Type 0} (given made : Result T Fault) (f : Fault) (Made : Fault → Fault → Type 0) (P : T → Type 0) (Q : Fault → Type 0) → MatchResult given (λ y. made ≡ Ok y) (λ e. IsErrAnd made (Made e)) → made ≡ Err f → MatchResult given P Q → (e : Fault) × (Q e × Made e f)
mapped (Ok x) made f Made P Q is e h = let no : ◌≡◌ {A = Result _ Fault} (Ok x) (Err f) = sym is ∙ e in absurd (cc no)
mapped (Err g) made f Made P Q is e h = (g, (h, subst (λ r. IsErrAnd r (Made g)) e is))

pub returns-in_err-held : goal.returns-in_err-held
returns-in_err-held c =
    let text = c.args.text.now in
    let p = err_from_is_err_and c.from_residual.result c.from_residual.ensures.1 in
    let over = c.in_err-held.ensures in
    rw (p.1, p.2) (path_refused text _ (subst (PathFault text) (sym over.1) (long_path over.0)))

pub returns-in_err-words : goal.returns-in_err-words
returns-in_err-words c =
    let text = c.args.text.now in
    let p = err_from_is_err_and c.from_residual-in_err-words.result c.from_residual-in_err-words.ensures.1 in
    let missing : false ≡ pointwise nat_eq (take 1 text) (47 ∷ []) = search rules in
    let told : c.in_err-words.field-0.0 ≡ fault PathUnlawful 0 = search rules in
    rw (p.1, p.2) (path_refused text _ (subst (PathFault text) (sym told) (path_first text c.in_ok-held.ensures.0 (other_text (take 1 text) (47 ∷ []) missing))))

pub map_err-requires : goal.map_err-requires
map_err-requires c = λ f is.
    let words = c.in_ok-words.words.now in
    let slip = subst (λ r. MatchResult r (λ n. Joined slash_byte words × (n ≡ count_of slash_byte words)) (Unjoined slash_byte words)) is (c.check_joined.ensures slash_byte (record { answers = λ b r e. search rules; apart = slash_apart })) in
    let same : f.place ≡ slip.place = ap (λ g. g.place) slip.told in
    let part : length words + 1 ≡ length c.args.text.now = search rules in
    omega (arith, same, slip.stuck.within, part, c.in_ok-held.ensures.0)

pub returns-in_err-map_err : goal.returns-in_err-map_err
returns-in_err-map_err c =
    let text = c.args.text.now in
    let words = c.in_ok-words.words.now in
    let p = err_from_is_err_and c.from_residual-in_err-map_err.result c.from_residual-in_err-map_err.ensures.1 in
    let checked = c.check_joined.ensures slash_byte (record { answers = λ b r e. search rules; apart = slash_apart }) in
    let (f, (slip, told)) = mapped c.check_joined.result c.map_err.result _ _ (λ n. Joined slash_byte words × (n ≡ count_of slash_byte words)) (Unjoined slash_byte words) c.map_err.ensures.cases c.in_err-map_err.was checked in
    rw (p.1, p.2) (path_refused text _ (subst (PathFault text) (sym told) (path_slip text words f (slashed text words (search rules) (search rules)) c.in_ok-held.ensures.0 slip)))

pub invariant_of-result : goal.invariant_of-result
invariant_of-result c =
    let text = c.args.text.now in
    let words = c.in_ok-words.words.now in
    let held = c.in_ok-held.ensures in
    let checked = c.check_joined.ensures slash_byte (record { answers = λ b r e. search rules; apart = slash_apart }) in
    let joined = kept c.check_joined.result c.map_err.result _ _ (Joined slash_byte words) (λ n. n ≡ count_of slash_byte words) (Unjoined slash_byte words) c.map_err.ensures.cases c.in_ok-map_err.was checked in
    let form = subst IsPath (sym (slashed text words (search rules) (search rules))) (path_of joined) in
    record { lawful = ∣ subst LawfulPath (sym held.1) (record { form = form; short = held.0 }) ∣₁ }

pub returns : goal.returns
returns c =
    let text = c.args.text.now in
    let words = c.in_ok-words.words.now in
    let held = c.in_ok-held.ensures in
    let checked = c.check_joined.ensures slash_byte (record { answers = λ b r e. search rules; apart = slash_apart }) in
    let joined = kept c.check_joined.result c.map_err.result _ _ (Joined slash_byte words) (λ n. n ≡ count_of slash_byte words) (Unjoined slash_byte words) c.map_err.ensures.cases c.in_ok-map_err.was checked in
    let form = subst IsPath (sym (slashed text words (search rules) (search rules))) (path_of joined) in
    (held.1, path_accepted text (record { form = form; short = held.0 }))
