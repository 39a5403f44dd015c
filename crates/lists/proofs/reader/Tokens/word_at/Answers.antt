use Rattle.std.proofs.Common.{sym, subst}
use Rattle.names.specs.Words.{word_byte}
use Rattle.lists.specs.Lexemes.{TokenFault}
use Rattle.lists.proofs.Lexing.{word_token, word_long}
use Rattle.lists.proofs.reader.Tokens.word_at.Goals as goal

pub returns-then-end-place-gt-MAX_WORD_BYTES : goal.returns-then-end-place-gt-MAX_WORD_BYTES
returns-then-end-place-gt-MAX_WORD_BYTES c =
    let self = c.args.self.now in
    let word = c.run_end-end.ensures.run word_byte (λ b r e. e) in
    subst (TokenFault self.text.now self.at) (sym c.at.ensures) (word_long self.text.now self.at c.args.place c.requires.begins.gap c.requires.begins.inside c.run_end-end.result word c.if-end-place-gt-MAX_WORD_BYTES.true)

pub returns : goal.returns
returns c =
    let self = c.args.self.now in
    let word = c.run_end-end.ensures.run word_byte (λ b r e. e) in
    word_token self.text.now self.at c.args.place c.requires.begins.gap c.requires.begins.inside c.run_end-end.result c.requires.word word c.if-end-place-gt-MAX_WORD_BYTES.false
