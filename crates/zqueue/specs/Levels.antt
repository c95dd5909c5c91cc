-- What the log of the program says.

use Rattle.log.specs.declared.level.LevelFilter.{LevelFilter}
use Rattle.log.specs.declared.level.LevelFilter.TheVariants as filter
use Rattle.zq_settings.specs.declared.log_level.LogLevel.{LogLevel}
use Rattle.zq_settings.specs.declared.log_level.LogLevel.TheVariants.{Debug, Info, Warn}

-- the most verbose level that is written where the settings say so
abbrev pub filter_of : LogLevel → LevelFilter
filter_of Warn = filter.Warn
filter_of Info = filter.Info
filter_of Debug = filter.Debug
