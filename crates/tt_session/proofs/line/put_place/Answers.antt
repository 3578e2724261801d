use Rattle.tt_session.proofs.line.put_place.Goals as goal

pub returns-in-Byte-clause-put : goal.returns-in-Byte-clause-put
returns-in-Byte-clause-put g c = rw c.in-Byte.is c.put_number.ensures.put

pub returns-in-Byte-clause-part : goal.returns-in-Byte-clause-part
returns-in-Byte-clause-part g c = rw c.in-Byte.is c.put_number.ensures.part

pub returns-in-Entry-clause-put : goal.returns-in-Entry-clause-put
returns-in-Entry-clause-put g c = rw c.in-Entry.is c.put_number-in-Entry.ensures.put

pub returns-in-Entry-clause-part : goal.returns-in-Entry-clause-part
returns-in-Entry-clause-part g c = rw c.in-Entry.is c.put_number-in-Entry.ensures.part
