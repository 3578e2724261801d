use Rattle.tt_session.proofs.line.put_line.Goals as goal

pub returns-in-Usage-clause-put : goal.returns-in-Usage-clause-put
returns-in-Usage-clause-put g c = rw c.in-Usage.is c.put_words.ensures.put

pub returns-in-Usage-clause-part : goal.returns-in-Usage-clause-part
returns-in-Usage-clause-part g c = rw c.in-Usage.is c.put_words.ensures.part

pub returns-in-NoFile-clause-put : goal.returns-in-NoFile-clause-put
returns-in-NoFile-clause-put g c = rw (c.in-NoFile.is, ← c.as_bytes.ensures.bytes) c.put_words-in-NoFile.ensures.put

pub returns-in-NoFile-clause-part : goal.returns-in-NoFile-clause-part
returns-in-NoFile-clause-part g c = rw (c.in-NoFile.is, ← c.as_bytes.ensures.bytes) c.put_words-in-NoFile.ensures.part

pub returns-in-TooLong-clause-put : goal.returns-in-TooLong-clause-put
returns-in-TooLong-clause-put g c = rw c.in-TooLong.is c.put_words-in-TooLong.ensures.put

pub returns-in-TooLong-clause-part : goal.returns-in-TooLong-clause-part
returns-in-TooLong-clause-part g c = rw c.in-TooLong.is c.put_words-in-TooLong.ensures.part

pub returns-in-ScheduleEnded-clause-put : goal.returns-in-ScheduleEnded-clause-put
returns-in-ScheduleEnded-clause-put g c = rw c.in-ScheduleEnded.is c.put_words-in-ScheduleEnded.ensures.put

pub returns-in-ScheduleEnded-clause-part : goal.returns-in-ScheduleEnded-clause-part
returns-in-ScheduleEnded-clause-part g c = rw c.in-ScheduleEnded.is c.put_words-in-ScheduleEnded.ensures.part

pub returns-in-StepLimit-clause-put : goal.returns-in-StepLimit-clause-put
returns-in-StepLimit-clause-put g c = rw c.in-StepLimit.is c.put_number.ensures.put

pub returns-in-StepLimit-clause-part : goal.returns-in-StepLimit-clause-part
returns-in-StepLimit-clause-part g c = rw c.in-StepLimit.is c.put_number.ensures.part

pub returns-in-ReadFault-clause-put : goal.returns-in-ReadFault-clause-put
returns-in-ReadFault-clause-put g c = rw c.in-ReadFault.is c.put_words-in-ReadFault.ensures.put

pub returns-in-ReadFault-clause-part : goal.returns-in-ReadFault-clause-part
returns-in-ReadFault-clause-part g c = rw c.in-ReadFault.is c.put_words-in-ReadFault.ensures.part

pub returns-in-WriteFault-clause-put : goal.returns-in-WriteFault-clause-put
returns-in-WriteFault-clause-put g c = rw c.in-WriteFault.is c.put_words-in-WriteFault.ensures.put

pub returns-in-WriteFault-clause-part : goal.returns-in-WriteFault-clause-part
returns-in-WriteFault-clause-part g c = rw c.in-WriteFault.is c.put_words-in-WriteFault.ensures.part

pub returns-in-NoMemory-clause-put : goal.returns-in-NoMemory-clause-put
returns-in-NoMemory-clause-put g c = rw c.in-NoMemory.is c.put_words-in-NoMemory.ensures.put

pub returns-in-NoMemory-clause-part : goal.returns-in-NoMemory-clause-part
returns-in-NoMemory-clause-part g c = rw c.in-NoMemory.is c.put_words-in-NoMemory.ensures.part
