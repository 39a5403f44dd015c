use Rattle.std.proofs.Common.{[], sym, ◌∙◌, subst, append-nil}
use Rattle.texts.specs.Shown.{shown}
use Rattle.lists.specs.Texts.{tree_signs}
use Rattle.matching.specs.Judging.{Judges}
use Rattle.matching.proofs.judge.Judge.judge_text.Goals as goal

pub returns : goal.returns
returns g c ps is tree reads ready =
    let self = c.args.self.now in
    let text = shown c.args.list.now.text in
    let starts = c.args.starts.count in
    let tokens = c.tokens.ensures in
    let end = c.judge.new.tokens.at in
    let (qs, (placed, these)) = tokens.placing.placed (tree_signs tree) reads in
    let judged : Judges g.R.WordRule.same self text 0 end starts c.judge.result = subst (λ at. Judges g.R.WordRule.same self text at end starts c.judge.result) tokens.start (subst (λ t. Judges g.R.WordRule.same self t c.tokens.result.at end starts c.judge.result) tokens.text c.judge.ensures.judged) in
    (judged ps is tree ready [] tt qs placed (these ∙ sym (append-nil (tree_signs tree)))).means
