-- A list that was opened through a book derives by it what it derives by the groups that it reached.
use Rattle.std.proofs.Common.{◌≡◌, ℕ, Bool, true, List, Decides, sym, subst}
use Rattle.lists.specs.Texts.{Reads}
use Rattle.lists.proofs.Deciding.{lawful_list}
use Rattle.books.specs.Tables.{Table, text_of}
use Rattle.openings.specs.declared.opened.Opened.{Opened}
use Rattle.openings.specs.Answers.{list_of, groups_of, OpenedAs}
use Rattle.derivations.specs.Derives.{ListDerives}
use Rattle.matching.specs.declared.verdict.Verdict.{Verdict}
use Rattle.matching.specs.Verdicts.{is_grant}
use Rattle.matching.specs.Alike.{SameTreeAndGroups}
use Rattle.matching.specs.Judgements.{JudgedAs}

through : (book : Table) (list : List ℕ) (o : Opened) → OpenedAs (text_of book) list o → SameTreeAndGroups o book list
through book list o opened =
    let form = (lawful_list (list_of o) o.list.lawful).form in
    record {
      tree = form.tree;
      list_reads = form.reads;
      text_reads = subst (λ text. Reads text form.tree) opened.same form.reads;
      groups = opened.opens.texts;
    }

pub judged : (Same : List ℕ → List ℕ → Type 0) (book : Table) (list name : List ℕ) (o : Opened) → OpenedAs (text_of book) list o → (r : Bool) (v : Verdict) → is_grant v ≡ r → (SameTreeAndGroups o book list → Decides r (ListDerives Same book list name)) → JudgedAs Same book list name v
judged Same book list name o opened r v is told = record {
  groups = groups_of o;
  opens = opened.opens;
  faultless = opened.faultless;
  derived = subst (λ b. Decides b (ListDerives Same book list name)) (sym is) (told (through book list o opened));
}
