use Rattle.std.proofs.Common.{◌≡◌, ◌<◌, false, eqb, length, get_or, sym, subst, arith}
use Rattle.lists.specs.Bytes.{group_byte}
use Rattle.lists.specs.Lexemes.{TokenFault, is_blank}
use Rattle.lists.proofs.Lexing.{name_missing, name_long, brace_missing, group_token}
use Rattle.lists.proofs.reader.Tokens.group_at.Goals as goal

pub returns-then-end-start : goal.returns-then-end-start
returns-then-end-start c =
    let self = c.args.self.now in
    let before = c.run_end-start.ensures.run is_blank (λ b r e. e) in
    let names = c.run_end-end.ensures.run group_byte (λ b r e. e) in
    subst (TokenFault self.text.now self.at) (sym c.at.ensures)
    (name_missing self.text.now self.at c.args.place c.requires.begins.gap c.requires.begins.inside c.run_end-start.result c.run_end-end.result c.requires.brace before names c.if-end-start.true)

pub returns-then-end-start-gt-MAX_GROUP_NAME_BYTES : goal.returns-then-end-start-gt-MAX_GROUP_NAME_BYTES
returns-then-end-start-gt-MAX_GROUP_NAME_BYTES c =
    let self = c.args.self.now in
    let before = c.run_end-start.ensures.run is_blank (λ b r e. e) in
    let names = c.run_end-end.ensures.run group_byte (λ b r e. e) in
    subst (TokenFault self.text.now self.at) (sym c.at-then-end-start-gt-MAX_GROUP_NAME_BYTES.ensures)
    (name_long self.text.now self.at c.args.place c.requires.begins.gap c.requires.begins.inside c.run_end-start.result c.run_end-end.result c.requires.brace before names c.if-end-start-gt-MAX_GROUP_NAME_BYTES.true)

pub returns-then-ne : goal.returns-then-ne
returns-then-ne c =
    let self = c.args.self.now in
    let text = self.text.now in
    let close = c.run_end-close.result in
    let before = c.run_end-start.ensures.run is_blank (λ b r e. e) in
    let names = c.run_end-end.ensures.run group_byte (λ b r e. e) in
    let after = c.run_end-close.ensures.run is_blank (λ b r e. e) in
    let other : close < length text → eqb (get_or text close 0) 125 ≡ false = λ lt. grind arith in
    subst (TokenFault text self.at) (sym c.at-then-ne.ensures)
    (brace_missing text self.at c.args.place c.requires.begins.gap c.requires.begins.inside c.run_end-start.result c.run_end-end.result c.requires.brace before names c.if-end-start.false c.if-end-start-gt-MAX_GROUP_NAME_BYTES.false close after other)

pub returns : goal.returns
returns c =
    let self = c.args.self.now in
    let text = self.text.now in
    let close = c.run_end-close.result in
    let before = c.run_end-start.ensures.run is_blank (λ b r e. e) in
    let names = c.run_end-end.ensures.run group_byte (λ b r e. e) in
    let after = c.run_end-close.ensures.run is_blank (λ b r e. e) in
    let inside : close < length text = grind arith in
    let closes : get_or text close 0 ≡ 125 = grind arith in
    group_token text self.at c.args.place c.requires.begins.gap c.requires.begins.inside c.run_end-start.result c.run_end-end.result c.requires.brace before names c.if-end-start.false c.if-end-start-gt-MAX_GROUP_NAME_BYTES.false close after inside closes
