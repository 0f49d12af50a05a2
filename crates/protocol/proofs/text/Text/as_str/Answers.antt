use Rattle.protocol.proofs.PlainText.{characters}
use Rattle.protocol.proofs.text.Text.as_str.Goals as goal

pub from_utf8_unchecked-requires : goal.from_utf8_unchecked-requires
from_utf8_unchecked-requires c = characters _ c.as_bytes.ensures.plain
