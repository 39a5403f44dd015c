use Rattle.std.proofs.Common.{◌≡◌, ℕ, ◌+◌, ◌<◌, true, false, List, length, Some, None, Ok, Option, sym, refl, ap, ◌∙◌, subst, arith, rules}
use Rattle.std.proofs.lemmas.Result.{err_from_is_err_and}
use Rattle.faults.specs.declared.kind.Kind.TheVariants.{ItemMissing}
use Rattle.names.specs.Faults.{fault}
use Rattle.lists.specs.declared.token.Token.{Token}
use Rattle.lists.specs.declared.token.Token.TheVariants.{Open, Close, Star, Bar}
use Rattle.lists.specs.declared.token.Lexeme.{Lexeme}
use Rattle.lists.specs.Trees.{star, bar}
use Rattle.lists.specs.Lexemes.{sign, Gap, Passes, TokenAt, TokenFault}
use Rattle.lists.specs.Faults.{Slip}
use Rattle.lists.specs.Machine.{within, Leads, Enters, BracketOpens, ListRead, ItemRead}
use Rattle.lists.proofs.Course.{leads_join, leads_none, gap_leads, token_leads}
use Rattle.lists.proofs.Slips.{token_slip, star_slip, bar_slip, deep_slip, end_slip, bracket_leads, bracket_opens, unclosed_slip, bracket_read, item_sign, close_read, close_refused}
use Rattle.lists.proofs.check.+read_bracket_read_list.Goals as goal
use Rattle.lists.proofs.check.+read_bracket_read_list.Goals.{read_list-After-next_token, read_list-In-Some}

-- the token that the reader has passed, in the text at the front of the list
token : (now text : List ℕ) (from to : ℕ) (o : Option Lexeme) (l : Lexeme) (k : Token) → now ≡ text → Passes now from to (Ok o) → o ≡ Some l → l.token ≡ k → TokenAt text from l.place to (sign k)
token now text from to o l k same p e f =
    let (t, end) = subst (λ u. Passes u from to (Ok (Some l))) same (subst (λ x. Passes now from to (Ok x)) e p) in
    subst (λ x. TokenAt text from l.place x (sign k)) (sym end) (subst (λ x. TokenAt text from l.place l.end (sign x)) f t)

-- where the reader has come to the text's end
at_end : (now text : List ℕ) (from to : ℕ) (o : Option Lexeme) → now ≡ text → Passes now from to (Ok o) → o ≡ None → Gap text from (length text) × (to ≡ length text)
at_end now text from to o same p e = subst (λ u. Passes u from to (Ok None)) same (subst (λ x. Passes now from to (Ok x)) e p)

pub read_bracket-returns-then-depth-eq-MAX_DEPTH-clause-read : goal.read_bracket-returns-then-depth-eq-MAX_DEPTH-clause-read
read_bracket-returns-then-depth-eq-MAX_DEPTH-clause-read t c =
    let text = c.args.tokens.now.text.now in
    let o = c.requires in
    subst (Slip text) (sym c.at.ensures) (deep_slip text o.marked c.args.place o.inside o.bracket (subst (Enters text c.args.place) c.if-depth-eq-MAX_DEPTH.true o.enters))

pub read_bracket-read_list-requires : goal.read_bracket-read_list-requires
read_bracket-read_list-requires t c =
    let text = c.args.tokens.now.text.now in
    let o = c.requires in
    let few : c.args.depth < 16 = omega (arith, o.shallow, c.if-depth-eq-MAX_DEPTH.false) in
    let (due, p) = o.enters in (
      search rules,
      record {
        marked = o.marked;
        shallow = omega arith;
        leads = subst (λ k. Leads text 0 k (within 0 true) (within (c.args.depth + 1) true)) (sym o.behind) (leads_join p (bracket_leads text o.marked c.args.place c.args.depth due o.inside o.bracket few));
      },
    )

pub read_bracket-returns-then-not-branch-clause-read : goal.read_bracket-returns-then-not-branch-clause-read
read_bracket-returns-then-not-branch-clause-read t c =
    let text = c.args.tokens.now.text.now in
    let o = c.requires in
    let few : c.args.depth < 16 = omega (arith, o.shallow, c.if-depth-eq-MAX_DEPTH.false) in
    subst (Slip text) (sym c.at-then-not-branch.ensures)
    (unclosed_slip text o.marked c.args.place _ c.args.depth o.inside o.bracket few o.enters
    (subst (λ k. ListRead text k (c.args.depth + 1) false c.read_list.new.tokens.at) o.behind (subst (λ x. ListRead text c.args.tokens.now.at (c.args.depth + 1) x c.read_list.new.tokens.at) c.if-not-branch.true c.in_ok-read_list.ensures.read)))

pub read_bracket-returns-clause-read : goal.read_bracket-returns-clause-read
read_bracket-returns-clause-read t c =
    let text = c.args.tokens.now.text.now in
    let o = c.requires in
    let few : c.args.depth < 16 = omega (arith, o.shallow, c.if-depth-eq-MAX_DEPTH.false) in
    bracket_read text o.marked c.args.place _ c.args.depth o.inside o.bracket few
    (subst (λ k. ListRead text k (c.args.depth + 1) true c.read_list.new.tokens.at) o.behind (subst (λ x. ListRead text c.args.tokens.now.at (c.args.depth + 1) x c.read_list.new.tokens.at) c.if-not-branch.false c.in_ok-read_list.ensures.read))

pub read_list-loop-lexeme-init : goal.read_list-loop-lexeme-init
read_list-loop-lexeme-init t c = (refl, λ e le. leads_none c.args.tokens.now.text.now c.args.tokens.now.at (within e true) c.requires.leads.within_text)

-- what has been read of the list when the reader goes on, and the token that it has passed
so_far : (t : ℕ) (c : read_list-After-next_token t) → Leads c.args.tokens.now.text.now 0 c.loop-lexeme.tokens.at (within 0 true) (within c.args.depth c.loop-lexeme.due)
so_far t c = leads_join c.requires.leads (c.loop-lexeme.invariant.1 c.args.depth (omega arith))

same : (t : ℕ) (c : read_list-In-Some t) → c.next_token.new.self.text.now ≡ c.args.tokens.now.text.now
same t c = c.in_ok-lexeme.ensures.1 ∙ c.loop-lexeme.invariant.0

passed : (t : ℕ) (c : read_list-In-Some t) (k : Token) → c.in-Some.lexeme.token ≡ k → TokenAt c.args.tokens.now.text.now c.loop-lexeme.tokens.at c.in-Some.lexeme.place c.next_token.new.self.at (sign k)
passed t c k is = token c.loop-lexeme.tokens.text.now c.args.tokens.now.text.now c.loop-lexeme.tokens.at _ _ c.in-Some.lexeme k c.loop-lexeme.invariant.0 c.in_ok-lexeme.ensures.0 c.in-Some.is is

pub read_list-returns-in_err-lexeme-clause-read : goal.read_list-returns-in_err-lexeme-clause-read
read_list-returns-in_err-lexeme-clause-read t c =
    let p = err_from_is_err_and c.from_residual.result c.from_residual.ensures.1 in
    let at = c.loop-lexeme.tokens.at in
    rw (p.1, p.2)
    (token_slip c.args.tokens.now.text.now c.requires.marked at (within c.args.depth c.loop-lexeme.due) _ (so_far t (goal.at.read_list-returns-in_err-lexeme-clause-read t c).After-next_token)
    (subst (λ u. TokenFault u at c.in_err-lexeme.field-0.0) c.loop-lexeme.invariant.0 c.in_err-lexeme.ensures.0.0))

pub read_list-read_bracket-requires : goal.read_list-read_bracket-requires
read_list-read_bracket-requires t c =
    let here = passed t (goal.at.read_list-read_bracket-requires t c).In-Some Open c.in-Open.is in
    let opens = bracket_opens c.args.tokens.now.text.now c.requires.marked c.loop-lexeme.tokens.at c.in-Some.lexeme.place c.next_token.new.self.at c.args.depth c.loop-lexeme.due c.requires.shallow (so_far t (goal.at.read_list-read_bracket-requires t c).After-next_token) here in
    let on = c.loop-lexeme.invariant.1 c.args.depth (omega arith) in
    let e = same t (goal.at.read_list-read_bracket-requires t c).In-Some in
    (omega (arith, ap length e, on.forward, here.gap.forward, here.some, here.within), subst (λ u. BracketOpens u c.in-Some.lexeme.place c.next_token.new.self.at c.args.depth) (sym e) opens)

pub read_list-loop-lexeme-preserved-in-Open : goal.read_list-loop-lexeme-preserved-in-Open
read_list-loop-lexeme-preserved-in-Open t c =
    let e = same t (goal.at.read_list-loop-lexeme-preserved-in-Open t c).In-Some in
    let item = subst (λ u. ItemRead u c.in-Some.lexeme.place c.read_bracket.new.tokens.at c.args.depth) e c.in_ok-read_bracket-in-Open.ensures.read in
    let gap = (passed t (goal.at.read_list-loop-lexeme-preserved-in-Open t c).In-Some Open c.in-Open.is).gap in
    (c.read_bracket.ensures.kept ∙ e, λ d le. leads_join (leads_join (c.loop-lexeme.invariant.1 d le) (gap_leads c.args.tokens.now.text.now c.loop-lexeme.tokens.at c.in-Some.lexeme.place _ gap)) (item.1 d c.loop-lexeme.due le))

pub read_list-returns-in_err-close-in-Close-clause-read : goal.read_list-returns-in_err-close-in-Close-clause-read
read_list-returns-in_err-close-in-Close-clause-read t c =
    let p = err_from_is_err_and c.from_residual-in_err-close-in-Close.result c.from_residual-in_err-close-in-Close.ensures.1 in
    rw (p.1, p.2) (close_refused c.args.tokens.now.text.now c.requires.marked c.loop-lexeme.tokens.at _ _ c.args.depth c.loop-lexeme.due _ (so_far t (goal.at.read_list-returns-in_err-close-in-Close-clause-read t c).After-next_token) (passed t (goal.at.read_list-returns-in_err-close-in-Close-clause-read t c).In-Some Close c.in-Close.is) c.in_err-close-in-Close.ensures)

pub read_list-returns-in-Close-clause-read : goal.read_list-returns-in-Close-clause-read
read_list-returns-in-Close-clause-read t c =
    let (some, had) = c.in_ok-close-in-Close.ensures in
    close_read c.args.tokens.now.text.now c.requires.marked c.args.tokens.now.at c.loop-lexeme.tokens.at _ _ c.args.depth c.loop-lexeme.due c.loop-lexeme.invariant.1 (passed t (goal.at.read_list-returns-in-Close-clause-read t c).In-Some Close c.in-Close.is) some had

pub read_list-returns-in_err-after_item-in-Star-clause-read : goal.read_list-returns-in_err-after_item-in-Star-clause-read
read_list-returns-in_err-after_item-in-Star-clause-read t c =
    let p = err_from_is_err_and c.from_residual-in_err-after_item-in-Star.result c.from_residual-in_err-after_item-in-Star.ensures.1 in
    rw (p.1, p.2) (star_slip c.args.tokens.now.text.now c.requires.marked c.loop-lexeme.tokens.at _ _ c.args.depth c.loop-lexeme.due _ (so_far t (goal.at.read_list-returns-in_err-after_item-in-Star-clause-read t c).After-next_token) (passed t (goal.at.read_list-returns-in_err-after_item-in-Star-clause-read t c).In-Some Star c.in-Star.is) c.in_err-after_item-in-Star.ensures)

pub read_list-loop-lexeme-preserved-in-Continue-branch-5 : goal.read_list-loop-lexeme-preserved-in-Continue-branch-5
read_list-loop-lexeme-preserved-in-Continue-branch-5 t c =
    let here = passed t (goal.at.read_list-loop-lexeme-preserved-in-Continue-branch-5 t c).In-Some Star c.in-Star.is in
    (same t (goal.at.read_list-loop-lexeme-preserved-in-Continue-branch-5 t c).In-Some, λ d le. leads_join (c.loop-lexeme.invariant.1 d le) (subst (λ x. Leads c.args.tokens.now.text.now c.loop-lexeme.tokens.at c.next_token.new.self.at (within d x) (within d x)) (sym c.in_ok-after_item-in-Star.ensures) (token_leads c.args.tokens.now.text.now c.loop-lexeme.tokens.at _ _ star (within d false) (within d false) here refl)))

pub read_list-returns-in_err-after_item-in-Bar-clause-read : goal.read_list-returns-in_err-after_item-in-Bar-clause-read
read_list-returns-in_err-after_item-in-Bar-clause-read t c =
    let p = err_from_is_err_and c.from_residual-in_err-after_item-in-Bar.result c.from_residual-in_err-after_item-in-Bar.ensures.1 in
    rw (p.1, p.2) (bar_slip c.args.tokens.now.text.now c.requires.marked c.loop-lexeme.tokens.at _ _ c.args.depth c.loop-lexeme.due _ (so_far t (goal.at.read_list-returns-in_err-after_item-in-Bar-clause-read t c).After-next_token) (passed t (goal.at.read_list-returns-in_err-after_item-in-Bar-clause-read t c).In-Some Bar c.in-Bar.is) c.in_err-after_item-in-Bar.ensures)

pub read_list-loop-lexeme-preserved-in-Bar : goal.read_list-loop-lexeme-preserved-in-Bar
read_list-loop-lexeme-preserved-in-Bar t c =
    let here = passed t (goal.at.read_list-loop-lexeme-preserved-in-Bar t c).In-Some Bar c.in-Bar.is in
    (same t (goal.at.read_list-loop-lexeme-preserved-in-Bar t c).In-Some, λ d le. leads_join (c.loop-lexeme.invariant.1 d le) (subst (λ x. Leads c.args.tokens.now.text.now c.loop-lexeme.tokens.at c.next_token.new.self.at (within d x) (within d true)) (sym c.in_ok-after_item-in-Bar.ensures) (token_leads c.args.tokens.now.text.now c.loop-lexeme.tokens.at _ _ bar (within d false) (within d true) here refl)))

pub read_list-loop-lexeme-preserved : goal.read_list-loop-lexeme-preserved
read_list-loop-lexeme-preserved t c =
    let k = c.in-Some.lexeme.token in
    let here = passed t (goal.at.read_list-loop-lexeme-preserved t c).In-Some k refl in
    let other = c.in_default-token in
    (same t (goal.at.read_list-loop-lexeme-preserved t c).In-Some, λ d le. leads_join (c.loop-lexeme.invariant.1 d le) (token_leads c.args.tokens.now.text.now c.loop-lexeme.tokens.at _ _ (sign k) (within d c.loop-lexeme.due) (within d false) here (item_sign k other.not-Open other.not-Close other.not-Star other.not-Bar d c.loop-lexeme.due)))

pub read_list-returns-in_err-after_item-clause-read : goal.read_list-returns-in_err-after_item-clause-read
read_list-returns-in_err-after_item-clause-read t c =
    let (gap, _) = at_end c.loop-lexeme.tokens.text.now c.args.tokens.now.text.now c.loop-lexeme.tokens.at _ _ c.loop-lexeme.invariant.0 c.in_ok-lexeme.ensures.0 c.in_default.is in
    let p = err_from_is_err_and c.from_residual-in_err-after_item.result c.from_residual-in_err-after_item.ensures.1 in
    let (due, is) = c.in_err-after_item.ensures in
    let e = c.in_ok-lexeme.ensures.1 ∙ c.loop-lexeme.invariant.0 in
    rw (p.1, p.2) (subst (Slip c.args.tokens.now.text.now) (sym (is ∙ ap (λ u. fault ItemMissing (length u)) e)) (end_slip c.args.tokens.now.text.now c.requires.marked c.loop-lexeme.tokens.at c.args.depth c.loop-lexeme.due (so_far t (goal.at.read_list-returns-in_err-after_item-clause-read t c).After-next_token) gap due))

pub read_list-returns-clause-read : goal.read_list-returns-clause-read
read_list-returns-clause-read t c =
    let (gap, end) = at_end c.loop-lexeme.tokens.text.now c.args.tokens.now.text.now c.loop-lexeme.tokens.at _ _ c.loop-lexeme.invariant.0 c.in_ok-lexeme.ensures.0 c.in_default.is in
    (end, λ d le. subst (λ x. Leads c.args.tokens.now.text.now c.args.tokens.now.at c.next_token.new.self.at (within d true) (within d x)) c.in_ok-after_item.ensures (leads_join (c.loop-lexeme.invariant.1 d le) (gap_leads c.args.tokens.now.text.now c.loop-lexeme.tokens.at _ _ (subst (Gap c.args.tokens.now.text.now c.loop-lexeme.tokens.at) (sym end) gap))))
