use Rattle.std.proofs.Common.{◌≡◌, ◌<◌, false, eqb, length, get_or, None, sym, subst, arith, rules, tests}
use Rattle.std.proofs.lemmas.Result.{err_from_is_err_and}
use Rattle.faults.specs.declared.kind.Kind.TheVariants.{ByteNotAllowedInList}
use Rattle.names.specs.Faults.{fault}
use Rattle.names.specs.Words.{word_byte}
use Rattle.lists.specs.Bytes.{sign_of}
use Rattle.lists.specs.Lexemes.{Gap, SignBegins, TokenFault, bad_byte, sign, is_blank}
use Rattle.lists.proofs.Lexing.{mark_token}
use Rattle.lists.proofs.Segments.{past_at}
use Rattle.lists.proofs.reader.Tokens.peek.Goals as goal
use Rattle.lists.proofs.reader.Tokens.peek.Goals.{After-run_end-place}

gap : (c : After-run_end-place) → Gap c.args.self.now.text.now c.args.self.now.at c.run_end-place.result
gap c = c.run_end-place.ensures.run is_blank (λ b r e. e)

begins : (c : After-run_end-place) → c.run_end-place.result < length c.args.self.now.text.now → SignBegins c.args.self.now.text.now c.args.self.now.at c.run_end-place.result
begins c inside = record { gap = gap c; inside = inside }

pub returns-in_default : goal.returns-in_default
returns-in_default c =
    let whole : c.run_end-place.result ≡ length c.args.self.now.text.now = grind arith in
    subst (Gap c.args.self.now.text.now c.args.self.now.at) whole (gap (goal.at.returns-in_default c).After-run_end-place)

pub word_at-requires-clause-begins : goal.word_at-requires-clause-begins
word_at-requires-clause-begins c = begins (goal.at.word_at-requires-clause-begins c).After-run_end-place (search rules)

pub group_at-requires-clause-begins : goal.group_at-requires-clause-begins
group_at-requires-clause-begins c = begins (goal.at.group_at-requires-clause-begins c).After-run_end-place (search rules)

pub returns-in_err-token : goal.returns-in_err-token
returns-in_err-token c =
    let self = c.args.self.now in
    let place = c.run_end-place.result in
    let there = begins (goal.at.returns-in_err-token c).After-run_end-place (search rules) in
    let p = err_from_is_err_and c.from_residual.result c.from_residual.ensures.1 in
    let bad : c.in_err-token.field-0.0 ≡ fault ByteNotAllowedInList place = grind arith in
    let byte = get_or self.text.now place 0 in
    let other : word_byte byte ≡ false = search rules in
    let unbraced : eqb byte 123 ≡ false = search (rules, tests) in
    let none : sign_of (get_or self.text.now place 0) ≡ None = grind arith in
    rw (p.1, p.2)
    (subst (TokenFault self.text.now self.at) (sym bad)
    (bad_byte there.gap there.inside (record {
      no_blank = past_at is_blank self.text.now place there.inside there.gap.past;
      no_word = other;
      no_brace = unbraced;
      no_mark = none;
    })))

pub returns : goal.returns
returns c =
    let self = c.args.self.now in
    let there = begins (goal.at.returns c).After-run_end-place (search rules) in
    mark_token self.text.now self.at c.run_end-place.result there.gap there.inside (sign c.in_ok-token.token) (grind arith)
