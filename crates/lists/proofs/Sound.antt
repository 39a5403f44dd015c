-- What the machine reads from one place between signs to another spells signs that the machine of signs reads.
use Rattle.std.proofs.Common.{◌≡◌, ℕ, suc, ◌+◌, ◌<◌, ◌≤◌, true, eqb, ltb, List, [], ◌∷◌, ◌++◌, length, Some, None, Option, sym, refl, ap, ◌∙◌, subst, append_assoc, append-nil, arith, ltb-true, eqb-true}
use Rattle.std.proofs.slice.Lists.{all_by_recursion_push}
use Rattle.std.proofs.lemmas.List.{length_push}
use Rattle.std.proofs.lemmas.Bool.{cond_both}
use Rattle.std.specs.List.{AllByRecursion}
use Rattle.names.specs.Words.{word_byte, WordBytes, Word}
use Rattle.lists.specs.Trees.{Sign, atom, word as word-atom, group}
use Rattle.lists.specs.Bytes.{group_byte, IsGroupName, blanks, sign_of, Past}
use Rattle.lists.specs.Tokens.{Shows, shows_word, shows_mark, shows_group, Spells, ends, next}
use Rattle.lists.specs.Machine.{At, within, sign_step, State, out, word, brace, name, braced, item, lift, signed, out_step, braced_step, byte_step, reads}
use Rattle.lists.proofs.Signs.{sign_run}
use Rattle.lists.proofs.Machine.{Lands, lands_none, group_bytes}

abbrev GroupBytes : List ℕ → Type 0
GroupBytes g = AllByRecursion (λ b. group_byte b ≡ true) g

-- the text spells signs that lead from one state of the machine of signs to another
pub record Spelled (t : List ℕ) (a c : At) : Type 0 where
  pub signs : List Sign
  pub spells : Spells t signs
  pub runs : sign_run (Some a) signs ≡ Some c

-- w goes on to a whole word
record WordOn (w t : List ℕ) (a c : At) : Type 0 where
  whole : List ℕ
  rest : List ℕ
  split : w ++ t ≡ whole ++ rest
  is_word : Word whole
  past : Past word_byte rest
  tail : Spelled rest a c

-- g goes on to a whole group name, and its braces close
record NameOn (g t : List ℕ) (a c : At) : Type 0 where
  more : List ℕ
  blank : ℕ
  rest : List ℕ
  split : t ≡ more ++ (blanks blank ++ (125 ∷ rest))
  is_name : IsGroupName (g ++ more)
  tail : Spelled rest a c

record BraceOn (t : List ℕ) (a c : At) : Type 0 where
  before : ℕ
  group_name : List ℕ
  blank : ℕ
  rest : List ℕ
  split : t ≡ blanks before ++ (group_name ++ (blanks blank ++ (125 ∷ rest)))
  is_name : IsGroupName group_name
  tail : Spelled rest a c

record BracedOn (t : List ℕ) (a c : At) : Type 0 where
  blank : ℕ
  rest : List ℕ
  split : t ≡ blanks blank ++ (125 ∷ rest)
  tail : Spelled rest a c

record Sound (t : List ℕ) : Type 0 where
  from_out : (a c : At) → Lands (reads (Some (out a)) t) c → Spelled t a c
  from_word : (a c : At) (w : List ℕ) (k : ℕ) → WordBytes w → length w ≡ k → 0 < k → k ≤ 32 → Lands (reads (Some (word a k)) t) c → WordOn w t a c
  from_brace : (a c : At) → Lands (reads (Some (brace a)) t) c → BraceOn t a c
  from_name : (a c : At) (g : List ℕ) (k : ℕ) → GroupBytes g → length g ≡ k → 0 < k → k ≤ 32 → Lands (reads (Some (name a k)) t) c → NameOn g t a c
  from_braced : (a c : At) → Lands (reads (Some (braced a)) t) c → BracedOn t a c

-- a blank before signs
spelled_blank : {t : List ℕ} {a c : At} → Spelled t a c → Spelled (32 ∷ t) a c
spelled_blank r = record { signs = r.signs; spells = more r.spells; runs = r.runs }
  where
    more : {u : List ℕ} {ss : List Sign} → Spells u ss → Spells (32 ∷ u) ss
    more (ends n) = ends (suc n)
    more (next n sh sp) = next (suc n) sh sp

-- a sign before signs
spelled_sign : (bytes rest : List ℕ) (s : Sign) (a b c : At) → Shows bytes rest s → sign_step a s ≡ Some b → Spelled rest b c → Spelled (bytes ++ rest) a c
spelled_sign bytes rest s a b c sh e r = record { signs = s ∷ r.signs; spells = next 0 sh r.spells; runs = ap (λ o. sign_run o r.signs) e ∙ r.runs }

out_end : (a c : At) → a ≡ c → Spelled [] a c
out_end a c e = record { signs = []; spells = ends 0; runs = ap Some e }

atom_step : (a : At) (w : List ℕ) → sign_step a (atom (word-atom w)) ≡ Some (item a)
atom_step (within d due) w = refl

group_step : (a : At) (g : List ℕ) → sign_step a (group g) ≡ Some (item a)
group_step (within d due) g = refl

spelled_word : (w t : List ℕ) (a c : At) → WordOn w t (item a) c → Spelled (w ++ t) a c
spelled_word w t a c r = subst (λ u. Spelled u a c) (sym r.split) (spelled_sign r.whole r.rest (atom (word-atom r.whole)) a (item a) c (shows_word r.is_word r.past) (atom_step a r.whole) r.tail)

spelled_group : (t : List ℕ) (a c : At) → BraceOn t (item a) c → Spelled (123 ∷ t) a c
spelled_group t a c r =
    subst (λ u. Spelled u a c) (group_bytes r.group_name r.rest r.before r.blank ∙ ap (λ u. 123 ∷ u) (sym r.split))
    (spelled_sign _ r.rest (group r.group_name) a (item a) c (shows_group r.before r.blank r.is_name) (group_step a r.group_name) r.tail)

-- a byte that is a sign by itself
spelled_signed : (o : Option Sign) (b : ℕ) (t : List ℕ) (a c : At) → Sound t → sign_of b ≡ o → Lands (reads (signed a o) t) c → Spelled (b ∷ t) a c
spelled_signed None b t a c h is l = absurd (lands_none t c l)
spelled_signed (Some s) b t a c h is l = after (sign_step a s) refl l
  where
    after : (o : Option At) → sign_step a s ≡ o → Lands (reads (lift o) t) c → Spelled (b ∷ t) a c
    after None e k = absurd (lands_none t c k)
    after (Some x) e k = spelled_sign (b ∷ []) t s a x c (shows_mark is) e (h.from_out x c k)

-- one byte more, between signs
out_more : (b : ℕ) (t : List ℕ) → Sound t → (a c : At) → Lands (reads (out_step a b) t) c → Spelled (b ∷ t) a c
out_more b t h a c =
    let P : Option State → Type 0 = λ o. Lands (reads o t) c → Spelled (b ∷ t) a c in
    cond_both (eqb b 32) _ _ P
    (λ e l. subst (λ x. Spelled (x ∷ t) a c) (sym (eqb-true b 32 e)) (spelled_blank (h.from_out a c l)))
    (λ _. cond_both (word_byte b) _ _ P
    (λ e l. spelled_word (b ∷ []) t a c (h.from_word (item a) c (b ∷ []) 1 (e, tt) refl (omega arith) (omega arith) l))
    (λ _. cond_both (eqb b 123) _ _ P
    (λ e l. subst (λ x. Spelled (x ∷ t) a c) (sym (eqb-true b 123 e)) (spelled_group t a c (h.from_brace (item a) c l)))
    (λ _ l. spelled_signed (sign_of b) b t a c h refl l)))

braced_more : (b : ℕ) (t : List ℕ) → Sound t → (a c : At) → Lands (reads (braced_step a b) t) c → BracedOn (b ∷ t) a c
braced_more b t h a c =
    let P : Option State → Type 0 = λ o. Lands (reads o t) c → BracedOn (b ∷ t) a c in
    cond_both (eqb b 32) _ _ P
    (λ e l. let r = h.from_braced a c l in record { blank = suc r.blank; rest = r.rest; split = λ i. eqb-true b 32 e i ∷ r.split i; tail = r.tail })
    (λ _. cond_both (eqb b 125) _ _ P
    (λ e l. record { blank = 0; rest = t; split = ap (λ x. x ∷ t) (eqb-true b 125 e); tail = h.from_out a c l })
    (λ _ l. absurd (lands_none t c l)))

word_more : (b : ℕ) (t : List ℕ) → Sound t → (a c : At) (w : List ℕ) (k : ℕ) → WordBytes w → length w ≡ k → 0 < k → k ≤ 32 → Lands (reads (byte_step (word a k) b) t) c → WordOn w (b ∷ t) a c
word_more b t h a c w k bs e some few =
    let P : Option State → Type 0 = λ o. Lands (reads o t) c → WordOn w (b ∷ t) a c in
    cond_both (word_byte b) _ _ P
    (λ isw. cond_both (ltb k 32) _ _ P
    (λ room l.
    let r = h.from_word a c (w ++ (b ∷ [])) (k + 1) (all_by_recursion_push (λ x. word_byte x ≡ true) w b bs isw) (length_push w b ∙ ap (λ n. n + 1) e) (omega arith) (omega (arith, ltb-true k 32 room)) l in
    record { whole = r.whole; rest = r.rest; split = sym (append_assoc w (b ∷ []) t) ∙ r.split; is_word = r.is_word; past = r.past; tail = r.tail })
    (λ _ l. absurd (lands_none t c l)))
    (λ past l. record { whole = w; rest = b ∷ t; split = refl; is_word = record { some = omega arith; few = omega arith; bytes = bs }; past = past; tail = out_more b t h a c l })

name_more : (b : ℕ) (t : List ℕ) → Sound t → (a c : At) (g : List ℕ) (k : ℕ) → GroupBytes g → length g ≡ k → 0 < k → k ≤ 32 → Lands (reads (byte_step (name a k) b) t) c → NameOn g (b ∷ t) a c
name_more b t h a c g k bs e some few =
    let P : Option State → Type 0 = λ o. Lands (reads o t) c → NameOn g (b ∷ t) a c in
    cond_both (group_byte b) _ _ P
    (λ isg. cond_both (ltb k 32) _ _ P
    (λ room l.
    let r = h.from_name a c (g ++ (b ∷ [])) (k + 1) (all_by_recursion_push (λ x. group_byte x ≡ true) g b bs isg) (length_push g b ∙ ap (λ n. n + 1) e) (omega arith) (omega (arith, ltb-true k 32 room)) l in
    record { more = b ∷ r.more; blank = r.blank; rest = r.rest; split = ap (λ u. b ∷ u) r.split; is_name = subst IsGroupName (append_assoc g (b ∷ []) r.more) r.is_name; tail = r.tail })
    (λ _ l. absurd (lands_none t c l)))
    (λ _ l.
    let r = braced_more b t h a c l in
    record { more = []; blank = r.blank; rest = r.rest; split = r.split; is_name = subst IsGroupName (sym (append-nil g)) (record { some = omega arith; few = omega arith; bytes = bs }); tail = r.tail })

brace_more : (b : ℕ) (t : List ℕ) → Sound t → (a c : At) → Lands (reads (byte_step (brace a) b) t) c → BraceOn (b ∷ t) a c
brace_more b t h a c =
    let P : Option State → Type 0 = λ o. Lands (reads o t) c → BraceOn (b ∷ t) a c in
    cond_both (eqb b 32) _ _ P
    (λ e l. let r = h.from_brace a c l in record { before = suc r.before; group_name = r.group_name; blank = r.blank; rest = r.rest; split = λ i. eqb-true b 32 e i ∷ r.split i; is_name = r.is_name; tail = r.tail })
    (λ _. cond_both (group_byte b) _ _ P
    (λ e l.
    let r = h.from_name a c (b ∷ []) 1 (e, tt) refl (omega arith) (omega arith) l in
    record { before = 0; group_name = b ∷ r.more; blank = r.blank; rest = r.rest; split = ap (λ u. b ∷ u) r.split; is_name = r.is_name; tail = r.tail })
    (λ _ l. absurd (lands_none t c l)))

sound : (t : List ℕ) → Sound t
sound [] = record {
  from_out = out_end;
  from_word = λ a c w k bs e some few l. record { whole = w; rest = []; split = refl; is_word = record { some = omega arith; few = omega arith; bytes = bs }; past = tt; tail = out_end a c l };
  from_brace = λ a c l. absurd l;
  from_name = λ a c g k bs e some few l. absurd l;
  from_braced = λ a c l. absurd l;
}
sound (b ∷ t) =
    let h = sound t in
    record { from_out = out_more b t h; from_word = word_more b t h; from_brace = brace_more b t h; from_name = name_more b t h; from_braced = braced_more b t h }

pub reads_spelled : (t : List ℕ) (a c : At) → Lands (reads (Some (out a)) t) c → Spelled t a c
reads_spelled t = (sound t).from_out
