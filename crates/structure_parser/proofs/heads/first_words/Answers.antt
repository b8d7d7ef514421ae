use Rattle.std.proofs.Common.{rules, ◌≡◌, ◌∷◌, ◌||◌, ◌+◌, ◌≤◌, ◌^◌, List, [], not, length, sym, ap, ◌∙◌, subst, arith}
use Rattle.std.specs.Prelude.{if◌then◌else◌}
use Rattle.std.specs.List.{AllByRecursion}
use Rattle.file_cut.specs.Lines.{Numbered, numbered_line}
use Rattle.structure_parser.specs.Reading.{names_in, fresh_in, first_word}
use Rattle.structure_parser.proofs.HeadLaws.{with-length, counted-step, counted-less}
use Rattle.structure_parser.proofs.heads.first_words.Goals as goal

pub add_first-requires-clause-short : goal.add_first-requires-clause-short
add_first-requires-clause-short c =
    let line : Numbered = numbered_line c.in-Some.line.number c.in-Some.line.text.now in
    let step : c.lines.line-iterator ≡ line ∷ c.next.new.self = search rules in
    (subst (λ (l : List Numbered). AllByRecursion (λ line. length line.text ≤ 2 ^ 26) l) step
    c.lines.invariant.short).0

pub add_first-requires-clause-room : goal.add_first-requires-clause-room
add_first-requires-clause-room c =
    let line : Numbered = numbered_line c.in-Some.line.number c.in-Some.line.text.now in
    let step : c.lines.line-iterator ≡ line ∷ c.next.new.self = search rules in
    omega (arith, ap length step, c.lines.invariant.few, c.requires.few)

pub counted-fresh-requires : goal.counted-fresh-requires
counted-fresh-requires c =
    let line : Numbered = numbered_line c.in-Some.line.number c.in-Some.line.text.now in
    let step : c.lines.line-iterator ≡ line ∷ c.next.new.self = search rules in
    omega (arith, ap length step, c.lines.invariant.less, c.requires.few)

pub lines-preserved : goal.lines-preserved
lines-preserved c =
    let line : Numbered = numbered_line c.in-Some.line.number c.in-Some.line.text.now in
    let step : c.lines.line-iterator ≡ line ∷ c.next.new.self = search rules in
    record {
      named =
          ap (λ ns. names_in ns c.next.new.self) c.in_ok-is_new.ensures.names
          ∙ ap (names_in c.lines.names) (sym step) ∙ c.lines.invariant.named;
      counted =
          counted-step c.lines.names c.add_first.new.names line c.next.new.self c.lines.repeated
          c.in_ok-is_new.is_new c.lines.fresh c.counted-fresh.result (fresh_in [] c.args.lines)
          c.in_ok-is_new.ensures.new c.in_ok-is_new.ensures.names c.counted-fresh.ensures
          (ap (λ l. if c.lines.repeated then c.lines.fresh
          else c.lines.fresh + fresh_in c.lines.names l) (sym step) ∙ c.lines.invariant.counted);
      few =
          omega (
            arith,
            with-length c.lines.names (first_word line.text),
            ap length c.in_ok-is_new.ensures.names,
            ap length step,
            c.lines.invariant.few,
          );
      less =
          omega (
            arith,
            counted-less (c.lines.repeated || not c.in_ok-is_new.is_new) c.lines.fresh
                c.counted-fresh.result c.counted-fresh.ensures,
            ap length step,
            c.lines.invariant.less,
          );
      short =
          (subst (λ (l : List Numbered). AllByRecursion (λ line. length line.text ≤ 2 ^ 26) l) step
          c.lines.invariant.short).1;
    }
