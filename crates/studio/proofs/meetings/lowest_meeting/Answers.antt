-- `meetings::lowest_meeting` meets its contract: the lowest place with the manner.
use Rattle.basis.proofs.Names.{rules}
use Rattle.studio.proofs.laws.meetings.Naming.{meeting_handed}
use Rattle.studio.proofs.meetings.lowest_meeting.Goals as goal

pub returns : goal.returns
returns c = meeting_handed _ _ _ _ c.lowest_shared.result c.map.result c.lowest_shared.ensures (search rules)
