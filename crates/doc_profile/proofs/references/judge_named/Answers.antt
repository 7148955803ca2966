-- A character of a named reference.
use Rattle.doc_profile.specs.steps.View.{spelling_of, meaning_of}
use Rattle.doc_profile.proofs.Readers.{named_refused_over, named_refused, named_gives, named_going}
use Rattle.doc_profile.proofs.references.judge_named.Goals as goal
use Rattle.doc_profile.proofs.references.judge_named.Goals.{then-read-name-via-then-read-name, then-read-name-via-else-read-name+then-name-read}

pub returns-then-read-name : goal.returns-then-read-name
returns-then-read-name c = elim c.then-read-name.branch [
  | then-read-name-via-then-read-name w ↦ named_refused_over c.spelling-name.result.now (spelling_of c.args.entity) c.args.read (meaning_of c.args.entity) c.args.c c.spelling-name.ensures w.if-read-name.true
  | then-read-name-via-else-read-name+then-name-read w ↦ named_refused c.spelling-name.result.now (spelling_of c.args.entity) c.args.read (meaning_of c.args.entity) c.args.c c.spelling-name.ensures w.if-read-name.false w.if-name-read.true
]

pub returns-then-read-name-2 : goal.returns-then-read-name-2
returns-then-read-name-2 c = named_gives c.spelling-name.result.now (spelling_of c.args.entity) c.args.read (meaning_of c.args.entity) c.meaning.result c.args.c c.spelling-name.ensures c.if-read-name.false c.if-name-read.false c.if-read-name-2.true c.meaning.ensures

pub returns-else-read-name-2 : goal.returns-else-read-name-2
returns-else-read-name-2 c = named_going c.spelling-name.result.now (spelling_of c.args.entity) c.args.read (meaning_of c.args.entity) c.args.c c.spelling-name.ensures c.if-read-name.false c.if-name-read.false c.if-read-name-2.false
