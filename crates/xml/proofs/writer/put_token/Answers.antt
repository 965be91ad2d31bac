use Rattle.xml.proofs.WriterLaws.{room_opens, room_leaf, put_opens, put-closes, put_leaf, put_over}
use Rattle.xml.proofs.writer.put_token.Goals as goal

pub put_record-requires : goal.put_record-requires
put_record-requires c = room_opens c.requires _ c.in-Opens.ensures

pub returns-in-Opens : goal.returns-in-Opens
returns-in-Opens c = put_opens c.requires _ c.in-Opens.ensures _ c.put_record.ensures

pub returns-in-Closes : goal.returns-in-Closes
returns-in-Closes c = put-closes c.requires _ c.in-Closes.ensures _ c.saturating_sub.ensures

pub put_record-requires-in-Empty : goal.put_record-requires-in-Empty
put_record-requires-in-Empty c = room_leaf c.requires _ c.next_token.ensures _ c.in-Empty.is

pub returns-in-Empty : goal.returns-in-Empty
returns-in-Empty c = put_leaf c.requires _ c.next_token.ensures _ c.in-Empty.is _ c.put_record-in-Empty.ensures

pub returns-in-End : goal.returns-in-End
returns-in-End c = put_over c.requires _ c.next_token.ensures c.in-End.is
