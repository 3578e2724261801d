use Rattle.tt_lines.proofs.LineLemmas.{none-found, one-found}
use Rattle.tt_lines.proofs.ahead.first_newline.Goals as goal

pub returns-in-None : goal.returns-in-None
returns-in-None c =
    let found = rw (c.in-None.is, c.split_at.ensures.back) at c.memchr.ensures in
    none-found c.args.bytes.now c.args.searched c.requires.searched found

pub returns-in-Some : goal.returns-in-Some
returns-in-Some c =
    let found = rw (c.in-Some.is, c.split_at.ensures.back) at c.memchr.ensures in
    one-found c.args.bytes.now c.args.searched _ c.requires.within c.requires.searched found.0 found.1
