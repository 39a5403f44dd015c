use Rattle.std.proofs.Common.{◌≡◌, true, ◌↔◌, length, Decides, sym, ap, ◌∙◌, subst}
use Rattle.runs.specs.Runs.{Ends}
use Rattle.texts.specs.Shown.{shown}
use Rattle.names.specs.Names.{IsName}
use Rattle.names.proofs.Deciding.{lawful_name}
use Rattle.lists.specs.Texts.{Reads}
use Rattle.name_parts.specs.Texts.{text_of}
use Rattle.openings.specs.Answers.{list_of, groups_of}
use Rattle.derivations.specs.Derives.{ListDerives}
use Rattle.matching.specs.Judging.{Means, Derived}
use Rattle.matching.proofs.Likening.{alike}
use Rattle.matching.proofs.Verdicts.{verdict}
use Rattle.matching.proofs.derive.derives.Goals as goal

pub returns : goal.returns
returns g c =
    let same = g.R.WordRule.same in
    let name = shown c.args.name.now.text in
    let (ps, is) = lawful_name name c.args.name.now.lawful in
    let judge = c.judge_groups.new.self in
    let goes = c.judge_groups.ensures.goes in
    let list : judge.opened.now ≡ c.args.opened.now = goes.stays.list ∙ c.new-judge.ensures.list in
    let rule : judge.rule.now ≡ c.args.rule.now = goes.stays.rule ∙ c.new-judge.ensures.rule in
    let first : IsName (text_of c.new-judge.result.parts) ps = subst (λ text. IsName text ps) (sym c.new-judge.ensures.name) is in
    let last : IsName (text_of judge.parts) ps = subst (λ text. IsName text ps) (sym goes.stays.name) first in
    let has : (c.has.result ≡ true) ↔ Ends c.judge_text.result 0 (length ps) = subst (λ n. (c.has.result ≡ true) ↔ Ends c.judge_text.result 0 n) (c.count.ensures ps last) c.has.ensures in
    let held = goes.held ps first (λ k lt runs is. absurd (c.new-judge.ensures.none k (runs, is))) in
    let answer : Decides c.has.result (ListDerives (same c.args.rule.now) (groups_of c.args.opened.now) (list_of c.args.opened.now) name) =
    subst (λ r. Decides c.has.result (ListDerives (same r) (groups_of c.args.opened.now) (list_of c.args.opened.now) name)) rule
    (subst (λ o. Decides c.has.result (ListDerives (same judge.rule.now) (groups_of o) (list_of o) name)) list
    (verdict same judge name ps is (λ k lt. (c.judge_groups.ensures.all k lt, held k lt)) c.judge_text.result
    (λ tree reads ready. subst (λ n. Means ps (Derived same judge tree) n c.judge_text.result) c.one.ensures (c.judge_text.ensures ps last tree (subst (λ text. Reads text tree) (sym (c.list.ensures ∙ ap list_of (sym list))) reads) ready)) c.has.result has)) in
    record {
      answer = answer;
      alike = λ table text tree_and_groups. let a = alike (same c.args.rule.now) c.args.opened.now table text tree_and_groups name in (λ t. a.0 (answer.0 t), λ d. answer.1 (a.1 d));
    }
