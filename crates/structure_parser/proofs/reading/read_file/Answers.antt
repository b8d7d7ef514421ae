use Rattle.std.proofs.Common.{rules, ◌≡◌, ◌∷◌, ◌^◌, Err, refl, ap, inl, inr}
use Rattle.std.proofs.lemmas.Result.{IfOk-weaker, IfErr-weaker}
use Rattle.file_cut.specs.Lines.{Numbered, numbered_line, lines_of}
use Rattle.typing.specs.Contents.{content_of}
use Rattle.structure_parser.proofs.LineLengths.{rest-short}
use Rattle.structure_parser.proofs.ReadLaws.{file-fault, file-read}
use Rattle.structure_parser.proofs.reading.read_file.Goals as goal

pub returns-in-Err-Grammar-clause-fault : goal.returns-in-Err-Grammar-clause-fault
returns-in-Err-Grammar-clause-fault c =
    let functor : Numbered = numbered_line c.in-Some.functor.number c.in-Some.functor.text.now in
    let is : lines_of c.args.bytes.now ≡ functor ∷ c.next.new.self = search rules in (
      c.if-bytes-gt-MOST_BYTES.false,
      inr (inl (
        functor,
        c.next.new.self,
        is,
        refl,
        c.in-Err-Grammar.ensures.grammar (ap Err c.in-Err-Grammar.field-0-is),
      )),
    )

pub read_lines-requires-clause-short : goal.read_lines-requires-clause-short
read_lines-requires-clause-short c =
    let functor : Numbered = numbered_line c.in-Some.functor.number c.in-Some.functor.text.now in
    let is : lines_of c.args.bytes.now ≡ functor ∷ c.next.new.self = search rules in
    rest-short c.args.bytes.now (2 ^ 26) functor c.next.new.self c.if-bytes-gt-MOST_BYTES.false is

pub returns-clause-accepted : goal.returns-clause-accepted
returns-clause-accepted c =
    let functor : Numbered = numbered_line c.in-Some.functor.number c.in-Some.functor.text.now in
    let is : lines_of c.args.bytes.now ≡ functor ∷ c.next.new.self = search rules in
    IfOk-weaker c.read_lines.result _ _
    (λ r h. file-read c.args.bytes.now c.if-bytes-gt-MOST_BYTES.false functor c.next.new.self is
    c.in-Ok.term c.in-Ok.ensures.term (content_of r) h) c.read_lines.ensures.read

pub returns-clause-fault : goal.returns-clause-fault
returns-clause-fault c =
    let functor : Numbered = numbered_line c.in-Some.functor.number c.in-Some.functor.text.now in
    let is : lines_of c.args.bytes.now ≡ functor ∷ c.next.new.self = search rules in
    IfErr-weaker c.read_lines.result _ _
    (λ fault h. file-fault c.args.bytes.now c.if-bytes-gt-MOST_BYTES.false functor
    c.next.new.self is c.in-Ok.term c.in-Ok.ensures.term fault h) c.read_lines.ensures.fault
