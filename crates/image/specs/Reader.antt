-- What a reader means: the table in the bytes that it reads.
use Rattle.timetable.specs.Table.{Table}
use Rattle.image.specs.Format.{table_in}
use Rattle.image.specs.declared.image.Image.{Image}

abbrev pub means : Image → Table
means x = table_in x.bytes.now
